-- The numbers that come before the stored one stand in front of the others.
use Rattle.std.proofs.Common.{rules, ◌≡◌, true, false, sym, ◌∙◌}
use Rattle.std.proofs.lemmas.List.Sorted.{IsPartitionPoint-from_clause}
use lib.Dec.{ltb}
use Rattle.controls.specs.Private.{falls, is_before}
use Rattle.controls.proofs.Ordered.{parted}
use Rattle.controls.proofs.Column.passed.Goals as goal

pub returns-then-falls-clause-parting : goal.returns-then-falls-clause-parting
unfolding is_before
returns-then-falls-clause-parting c =
    let falling : falls c.args.self ≡ true = sym c.falls.ensures ∙ c.if-falls.true in
    let point = IsPartitionPoint-from_clause (λ number. ltb c.args.stored number) _ _ c.partition_point.ensures.partitioned
    (rw falling at (parted c.args.self c.args.stored _ c.requires)) (λ a r f k. search rules) in
    rw falling point

pub returns-else-falls-clause-parting : goal.returns-else-falls-clause-parting
unfolding is_before
returns-else-falls-clause-parting c =
    let rising : falls c.args.self ≡ false = sym c.falls.ensures ∙ c.if-falls.false in
    let point = IsPartitionPoint-from_clause (λ number. ltb number c.args.stored) _ _ c.partition_point-else-falls.ensures.partitioned
    (rw rising at (parted c.args.self c.args.stored _ c.requires)) (λ a r f k. search rules) in
    rw rising point
