-- Nothing and something. Assumes nothing.
use Rattle.std.proofs.Common.{◌≡◌, ℕ, Some, None, Option, arith}

pub none_some : (x : Option ℕ) (q : ℕ) → x ≡ None → x ≡ Some q → ⊥
none_some x q a b = let z : ◌≡◌ {A = ℕ} 0 1 = cc in omega arith

pub some_some : (x : Option ℕ) (p q : ℕ) → x ≡ Some p → x ≡ Some q → p ≡ q
some_some x p q a b = cc
