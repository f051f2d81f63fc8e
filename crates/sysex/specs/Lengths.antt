-- The numbers of documents 01 and 02 that derive from the kind, as one table: what is derived is what stands there (`as_the_table_says`).
use Rattle.std.specs.Prelude.{ℕ, ◌+◌, ◌-◌, true, List, [], ◌∷◌}
use Rattle.kinds.specs.declared.Kind.{Kind}
use Rattle.kinds.specs.declared.Kind.TheVariants.{Pod, BassPod, PodPro}
use Rattle.kinds.specs.Kinds.{size_of, name_place}
use Rattle.programs.specs.Memory.{memory_size}
use Rattle.sysex.specs.Forms.{program, all, data_count, shortest, longest, whole_lengths}

pub record Lengths : Type 0 where
  pub kind : Kind
  -- the bytes of a program; its name's first and last
  pub size : ℕ
  pub name_first : ℕ
  pub name_last : ℕ
  -- the half bytes of a dump of one program or the edit buffer, and of all programs, where it is long
  pub one_halves : ℕ
  pub all_halves : ℕ
  -- whole lengths: requests of a program, the edit buffer, all programs; dumps of them, long ones, and the shortest that the kind has
  pub whole : List ℕ
  pub whole-shortest : List ℕ
  -- the longest message, and the shortest receive or reply buffer; the most bytes that are stored
  pub longest : ℕ
  pub stored : ℕ
  pub memory : ℕ

abbrev pub line : Kind → ℕ → ℕ → ℕ → ℕ → ℕ → List ℕ → List ℕ → ℕ → ℕ → ℕ → Lengths
line kind size name_first name_last one_halves all_halves whole whole-shortest longest stored memory = record {
  kind = kind;
  size = size;
  name_first = name_first;
  name_last = name_last;
  one_halves = one_halves;
  all_halves = all_halves;
  whole = whole;
  whole-shortest = whole-shortest;
  longest = longest;
  stored = stored;
  memory = memory;
}

-- what the definitions make of a kind
abbrev pub derived : Kind → Lengths
derived kind =
    line kind (size_of kind) (name_place kind) (name_place kind + 16 - 1) (data_count kind true program) (data_count kind true all)
    (whole_lengths kind true) (whole_lengths kind (shortest kind)) (longest kind) (longest kind - 1) (memory_size kind)

-- and what the documents say
abbrev pub lengths : List Lengths
lengths =
    line Pod 72 55 70 144 5184 (9 ∷ 8 ∷ 8 ∷ 154 ∷ 153 ∷ 5193 ∷ []) (9 ∷ 8 ∷ 8 ∷ 152 ∷ 151 ∷ 5121 ∷ []) 5193 5192 2736 ∷
    line BassPod 80 64 79 160 5760 (9 ∷ 8 ∷ 8 ∷ 170 ∷ 169 ∷ 5769 ∷ []) (9 ∷ 8 ∷ 8 ∷ 170 ∷ 169 ∷ 5769 ∷ []) 5769 5768 3040 ∷
    line PodPro 72 55 70 144 5184 (9 ∷ 8 ∷ 8 ∷ 154 ∷ 153 ∷ 5193 ∷ []) (9 ∷ 8 ∷ 8 ∷ 152 ∷ 151 ∷ 5121 ∷ []) 5193 5192 2736 ∷
    []
