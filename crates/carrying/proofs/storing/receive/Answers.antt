-- A dump is long or short, as its length says.
use Prim.Native.Nat.{ℕ, ◌-◌, ◌*◌}
use mathlib.Core.List.{List}
use mathlib.Core.Path.{sym, ap, ◌∙◌}
use Rattle.halves.specs.HalfBytes.{join}
use Rattle.kinds.specs.Kinds.{size_of}
use Rattle.programs.specs.Spares.{with_spares}
use Rattle.programs.specs.Held.{held_of}
use Rattle.sysex.specs.Forms.{version_place}
use Rattle.carrying.proofs.Parts.{lent_count, lent_slots, lent_whole, lent_put}
use Rattle.carrying.proofs.Turns.{join_whole}
use Rattle.carrying.proofs.Dumps.{halves_are, halves_low, short_data}
use Rattle.carrying.proofs.storing.receive.Goals as goal

pub unwrap-requires : goal.unwrap-requires
unwrap-requires c =
    let a = c.args in
    let h = a.held.now in
    let v = c.version_place.ensures ∙ ap version_place c.type_for.ensures in
    let count = lent_count h.kind a.player a.target h.memory.now _ _ c.place-place.ensures c.count-count.ensures c.requires.there h.whole in
    (join_whole _ _ _ _ c.join_any.ensures (c.if-halves-count.true ∙ ap (λ (n : ℕ). 2 * n) (c.count-count.ensures ∙ sym count)) (halves_low h.kind a.target _ a.body.now v _ c.requires)).0

pub returns-then-halves-count-clause-held_after : goal.returns-then-halves-count-clause-held_after
returns-then-halves-count-clause-held_after c =
    let a = c.args in
    let h = a.held.now in
    let v = c.version_place.ensures ∙ ap version_place c.type_for.ensures in
    let count = lent_count h.kind a.player a.target h.memory.now _ _ c.place-place.ensures c.count-count.ensures c.requires.there h.whole in
    let made = (join_whole _ _ _ _ c.join_any.ensures (c.if-halves-count.true ∙ ap (λ (n : ℕ). 2 * n) (c.count-count.ensures ∙ sym count)) (halves_low h.kind a.target _ a.body.now v _ c.requires)).1 in
    ap (λ (memory : List ℕ). held_of memory h.marks.now)
    (lent_put h.kind a.player a.target h.memory.now _ _ c.place-place.ensures c.count-count.ensures c.requires.there h.whole _ _ (made ∙ ap join (halves_are h.kind a.target _ a.body.now v)))

pub join_short-requires-clause-bytes : goal.join_short-requires-clause-bytes
join_short-requires-clause-bytes c =
    let a = c.args in
    let h = a.held.now in
    lent_whole h.kind a.player a.target h.memory.now _ _ c.place-place.ensures c.count-count.ensures c.requires.there h.whole

pub join_short-requires-clause-whole : goal.join_short-requires-clause-whole
join_short-requires-clause-whole c =
    let a = c.args in
    let h = a.held.now in
    let v = c.version_place.ensures ∙ ap version_place c.type_for.ensures in
    let slots = lent_slots h.kind a.player a.target h.memory.now _ _ c.place-place.ensures c.count-count.ensures c.requires.there h.whole in
    short_data h.kind a.target _ a.body.now v _ c.requires (λ e. c.if-halves-count.false (e ∙ ap (λ (n : ℕ). 2 * n) (sym c.count-count.ensures)))
    ∙ ap (λ (n : ℕ). 2 * (n * (size_of h.kind - 1))) (sym slots)

pub join_short-requires-clause-low : goal.join_short-requires-clause-low
join_short-requires-clause-low c =
    let a = c.args in
    halves_low a.held.now.kind a.target _ a.body.now (c.version_place.ensures ∙ ap version_place c.type_for.ensures) _ c.requires

pub returns-else-halves-count-clause-held_after : goal.returns-else-halves-count-clause-held_after
returns-else-halves-count-clause-held_after c =
    let a = c.args in
    let h = a.held.now in
    let v = c.version_place.ensures ∙ ap version_place c.type_for.ensures in
    let slots = lent_slots h.kind a.player a.target h.memory.now _ _ c.place-place.ensures c.count-count.ensures c.requires.there h.whole in
    let halves = halves_are h.kind a.target _ a.body.now v in
    ap (λ (memory : List ℕ). held_of memory h.marks.now)
    (lent_put h.kind a.player a.target h.memory.now _ _ c.place-place.ensures c.count-count.ensures c.requires.there h.whole _ _
    (c.join_short.ensures ∙ (λ i. with_spares (size_of h.kind) (slots i) (join (halves i)))))
