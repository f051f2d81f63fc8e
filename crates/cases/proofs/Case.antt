-- Tables that are parted, since a declaration computes only so much.
use mathlib.Core.List.{List, ◌++◌, map-append}
use Rattle.cases.specs.Case.{Case, AllGiven}

-- one table behind the other
pub both_given : (xs ys : List Case) → AllGiven xs → AllGiven ys → AllGiven (xs ++ ys)
both_given xs ys e f = rw (map-append _ xs ys, map-append _ xs ys, e, f)
