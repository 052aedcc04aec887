-- The bucket of a signature, in a chained index. Assumes nothing.
use Rattle.std.specs.Prelude.{◌≡◌, ℕ, ◌<◌, List, map, length, None, Ok, vec_items, Option, Result, MatchOption, slice_index, slice_index_or}
use Rattle.std.proofs.Common.{sym, subst, ◌∙◌, arith}
use Rattle.std.specs.Result.{result_unwrap_or}
use Rattle.std.proofs.Math.Path.{ap}
use Rattle.std.proofs.lemmas.List.{get_or_read}
use Rattle.chains.specs.Chain.{Chain}
use Rattle.chains.specs.Seek.{seek}
use Rattle.chains.specs.declared.walks.Found.{Found}
use Rattle.chains.specs.declared.fault.ChainFault.{ChainFault}
use Rattle.chains.proofs.Paths.{trail}
use Rattle.indexes.specs.declared.cell.Cell.{Cell}
use Rattle.indexes.specs.declared.chained.Chained.{Chained}
use Rattle.indexes.specs.Meaning.{held}
use Rattle.indexes.specs.Hash.{bucket_of_signature}
use Rattle.indexes.specs.Buckets.{link_of, bucket_of, bears_at, leads_of, Bucket, Located}
use Rattle.indexes.specs.Cells.{bucket_at, sought}

pub bucket_low : (o : ℕ) (w : List ℕ) → 0 < bucket_of_signature o w
unfolding bucket_of_signature
bucket_low o w = omega arith

pub bucket_high : (o : ℕ) (w : List ℕ) → bucket_of_signature o w < 1025
unfolding bucket_of_signature
bucket_high o w = omega arith

abbrev pub links : Chained → List ℕ
links s = map link_of (vec_items s.cells)

abbrev pub head : Chained → ℕ → List ℕ → ℕ
head s o w = slice_index (vec_items s.heads) (bucket_of_signature o w)

abbrev pub path : Chained → ℕ → List ℕ → List ℕ
path s o w = trail (length (links s)) (links s) (head s o w)

pub bucket : (s : Chained) (o : ℕ) (w : List ℕ) → Bucket (links s) (map bucket_of (vec_items s.cells)) (head s o w) (bucket_of_signature o w) (path s o w)
bucket s o w = bucket_at _ _ _ _ (s.sorted (bucket_of_signature o w) (bucket_high o w))

-- what the walk that `place` makes from the head h over the cells cs comes to
pub walk_found : (s : Chained) (o : ℕ) (w : List ℕ) (b h : ℕ) (cs : List Cell) (r : Result (Option Found) ChainFault)
    → b ≡ bucket_of_signature o w → h ≡ slice_index_or (vec_items s.heads) b h → cs ≡ vec_items s.cells
    → ((p : List ℕ) → Chain (map link_of cs) h p → r ≡ Ok (seek (map (λ c. bears_at c o w) cs) 0 p))
    → MatchOption (result_unwrap_or r None) (held (leads_of (vec_items s.cells)) o w ≡ None) (Located (vec_items s.cells) (vec_items s.heads) o w)
walk_found s o w b h cs r hash first all walks =
    let at_head : h ≡ head s o w = get_or_read (vec_items s.heads) b h (omega (arith, hash, bucket_high o w, s.buckets)) first 0 ∙ ap (λ x. slice_index (vec_items s.heads) x) hash in
    let k = bucket s o w in
    let chain = subst (λ x. Chain (map link_of x) h (path s o w)) (sym all) (subst (λ x. Chain (links s) x (path s o w)) (sym at_head) k.chain) in
    let is = walks (path s o w) chain ∙ ap (λ x. Ok (seek (map (λ c. bears_at c o w) x) 0 (path s o w))) all in
    sought (vec_items s.cells) (vec_items s.heads) o w (path s o w) k _ (sym (ap (λ x. result_unwrap_or x None) is))
