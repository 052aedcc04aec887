-- What the calls that build chains do to the records, and what they answer. Assumes nothing.
use Rattle.std.specs.Prelude.{ℕ, zero, suc, Bool, cond, ◌&&◌, List, [], ◌∷◌, map, Ok, Err, Result, ◌==◌, nat_le, nat_lt}
use Rattle.chains.specs.Chain.{after_cell}
use Rattle.chains.specs.declared.walks.Found.{Found}
use Rattle.chains.specs.declared.fault.ChainFault.{ChainFault}
use Rattle.chains.specs.declared.fault.ChainFault.TheVariants.{Outside}

-- k is the number of one of n cells
abbrev pub is_cell : ℕ → ℕ → Bool
is_cell n k = nat_lt 0 k && nat_le k n

-- the records once cell k has another next; there is no cell 0, and none above their number, and then they stay
abbrev pub with_next : {R : Type 0} → (R → ℕ → R) → List R → ℕ → ℕ → List R
with_next led [] k n = []
with_next led (r ∷ rs) zero n = r ∷ rs
with_next led (r ∷ rs) (suc zero) n = led r n ∷ rs
with_next led (r ∷ rs) (suc (suc k)) n = r ∷ with_next led rs (suc k) n

-- the records once a cell stands behind the last one, 0 where there is none
abbrev pub appended : {R : Type 0} → (R → ℕ → R) → List R → ℕ → ℕ → List R
appended led rs last cell = with_next led (with_next led rs cell 0) last cell

-- the records once a cell is out of its chain
abbrev pub unlinked : {R : Type 0} → (R → ℕ) → (R → ℕ → R) → List R → Found → List R
unlinked after led rs at = with_next led rs at.before (after_cell (map after rs) at.cell)

-- a call answers a head where its cells are in the table, and is refused otherwise
abbrev pub answered : Bool → ℕ → Result ℕ ChainFault
answered b head = cond b (Ok head) (Err Outside)

-- append asks for a cell and a last one, 0 where there is none, and answers the chain's head
abbrev pub append_answer : ℕ → ℕ → ℕ → ℕ → Result ℕ ChainFault
append_answer n head last cell = answered (is_cell n cell && nat_le last n) (cond (last == 0) cell head)

-- unlink asks for a cell and the one before it, 0 where there is none, and answers the chain's head, which is another where the first cell goes
abbrev pub unlink_answer : ℕ → List ℕ → ℕ → Found → Result ℕ ChainFault
unlink_answer n links head at = answered (is_cell n at.cell && nat_le at.before n) (cond (at.before == 0) (after_cell links at.cell) head)
