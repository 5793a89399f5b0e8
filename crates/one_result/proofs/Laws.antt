-- What the laws of all crates cite. Assumes nothing.
use mathlib.Core.Path.{◌≡◌, sym, ◌∙◌}

-- what equals one value is equal
pub one_result : {A : Type 0} {value x y : A} → x ≡ value → y ≡ value → x ≡ y
one_result p q = p ∙ sym q
