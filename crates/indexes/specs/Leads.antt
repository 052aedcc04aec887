-- What is held, once what is at one place is another: nothing, something where nothing was, or another picture. Assumes nothing.
use Rattle.std.specs.Prelude.{◌≡◌, ℕ, suc, ◌<◌, true, List, [], ◌∷◌, ◌++◌, map, length, get_or, take, drop, set, Some, None, Option, refl}
use Rattle.std.proofs.Common.{sym, ap, ◌∙◌}
use Rattle.std.specs.Option.{option_map}
use Rattle.std.proofs.lemmas.List.{set-get_or, set_split, map-set, get_or-map}
use Rattle.std.proofs.lemmas.Bool.{true≢false}
use Rattle.indexes.specs.Meaning.{Lead, held, apart, leading, same_signature}
use Rattle.indexes.specs.declared.cell.Cell.{Cell}
use Rattle.indexes.specs.Records.{redirected}
use Rattle.indexes.specs.Buckets.{link_of, lead_in, bucket_for, bucket_of, bears, somes}
use Rattle.indexes.specs.Maps.{held_removed, apart_removed, apart_after, apart_before, held_same, swapped, held_inserted, apart_inserted, held_replaced, apart_replaced}

pub somes_append : (xs ys : List (Option Lead)) → somes (xs ++ ys) ≡ somes xs ++ somes ys
somes_append [] ys = refl
somes_append (None ∷ xs) ys = somes_append xs ys
somes_append (Some e ∷ xs) ys = ap (λ es. e ∷ es) (somes_append xs ys)

-- what has a signature is something
pub has_is : (x : Option Lead) (o : ℕ) (w : List ℕ) → bears x o w ≡ true → (e : Lead) × (x ≡ Some e) × (same_signature e.op e.row o w ≡ true)
has_is None o w b = absurd (true≢false (sym b))
has_is (Some e) o w b = (e, refl, b)

module _ (cs : List (Option Lead)) (i : ℕ) (l : i < length cs) where
  abbrev xs : List Lead
  xs = somes (take i cs)

  abbrev ys : List Lead
  ys = somes (drop (suc i) cs)

  split : (x : Option Lead) → somes (set cs i x) ≡ xs ++ somes (x ∷ drop (suc i) cs)
  split x = ap somes (set_split cs i x l) ∙ somes_append (take i cs) (x ∷ drop (suc i) cs)

  was : (x : Option Lead) → get_or cs i None ≡ x → somes cs ≡ xs ++ somes (x ∷ drop (suc i) cs)
  was x h = ap somes (sym (set-get_or cs i None)) ∙ ap (λ y. somes (set cs i y)) h ∙ split x

  -- a signature that is not held comes to a place that holds nothing
  module _ (n : Lead) (free : get_or cs i None ≡ None) (absent : held (somes cs) n.op n.row ≡ None) where
    none : held (xs ++ ys) n.op n.row ≡ None
    none = ap (λ r. held r n.op n.row) (sym (was None free)) ∙ absent

    pub used-apart : apart (somes cs) ≡ true → apart (somes (set cs i (Some n))) ≡ true
    used-apart once = ap apart (split (Some n)) ∙ apart_inserted xs ys n none (ap apart (sym (was None free)) ∙ once)

    pub used-held : (q : ℕ) (v : List ℕ) → held (somes (set cs i (Some n))) q v ≡ leading (held (somes cs)) n.op n.row (Some n.picture) q v
    used-held q v = ap (λ r. held r q v) (split (Some n)) ∙ held_inserted xs ys n none q v ∙ ap (λ r. leading (held r) n.op n.row (Some n.picture) q v) (sym (was None free))

  -- what the place holds has the signature o w
  module _ (o : ℕ) (w : List ℕ) (has : bears (get_or cs i None) o w ≡ true) (once : apart (somes cs) ≡ true) where
    abbrev e : Lead
    e = (has_is (get_or cs i None) o w has).0

    here : get_or cs i None ≡ Some e
    here = (has_is (get_or cs i None) o w has).1

    same : same_signature e.op e.row o w ≡ true
    same = (has_is (get_or cs i None) o w has).2

    apart-old : apart (xs ++ e ∷ ys) ≡ true
    apart-old = ap apart (sym (was (Some e) here)) ∙ once

    turn : (es : List Lead) → held es e.op e.row ≡ None → held es o w ≡ None
    turn es h = sym (held_same es o e.op w e.row (swapped e.op o e.row w same)) ∙ h

    -- it is freed
    pub freed-apart : apart (somes (set cs i None)) ≡ true
    freed-apart = ap apart (split None) ∙ apart_removed xs e ys apart-old

    pub freed-held : (q : ℕ) (v : List ℕ) → held (somes (set cs i None)) q v ≡ leading (held (somes cs)) o w None q v
    freed-held q v = ap (λ r. held r q v) (split None)
        ∙ held_removed xs ys e o w (turn xs (apart_before xs e ys apart-old)) same (turn ys (apart_after xs e ys apart-old)) q v
        ∙ ap (λ r. leading (held r) o w None q v) (sym (was (Some e) here))

    -- its signature leads to another picture
    module _ (p : ℕ) where
      led : somes (set cs i (option_map (redirected p) (get_or cs i None))) ≡ xs ++ redirected p e ∷ ys
      led = ap (λ x. somes (set cs i (option_map (redirected p) x))) here ∙ split (Some (redirected p e))

      pub led-apart : apart (somes (set cs i (option_map (redirected p) (get_or cs i None)))) ≡ true
      led-apart = ap apart led ∙ apart_replaced xs e (redirected p e) ys refl refl apart-old

      pub led-held : (q : ℕ) (v : List ℕ) → held (somes (set cs i (option_map (redirected p) (get_or cs i None)))) q v ≡ leading (held (somes cs)) o w (Some p) q v
      led-held q v = ap (λ r. held r q v) led
          ∙ held_replaced xs ys e o w (turn xs (apart_before xs e ys apart-old)) same (redirected p e) refl refl q v
          ∙ ap (λ r. leading (held r) o w (Some p) q v) (sym (was (Some e) here))

-- ---- a cell whose signature leads to another picture
-- what is the same of a cell that is written is the same of all
pub map_same : {X : Type 0} (g : Cell → X) (cs : List Cell) (i : ℕ) (d b : Cell) → i < length cs → g b ≡ g (get_or cs i d) → map g (set cs i b) ≡ map g cs
map_same g cs i d b l e = map-set g cs i b ∙ ap (set (map g cs) i) (e ∙ sym (get_or-map g cs i d (g d) l)) ∙ set-get_or (map g cs) i (g d)

same_bucket : (p : ℕ) (x : Option Lead) → bucket_for (option_map (redirected p) x) ≡ bucket_for x
same_bucket p None = refl
same_bucket p (Some e) = refl

module _ (cs : List Cell) (i p : ℕ) (r n : Cell) (l : i < length cs) (is : r ≡ get_or cs i r) (next : n.next ≡ r.next) (lead : lead_in n ≡ option_map (redirected p) (lead_in r)) where
  pub redirected_leads : map lead_in (set cs i n) ≡ set (map lead_in cs) i (option_map (redirected p) (get_or (map lead_in cs) i None))
  redirected_leads = map-set lead_in cs i n ∙ ap (set (map lead_in cs) i) (lead ∙ ap (λ c. option_map (redirected p) (lead_in c)) is ∙ ap (option_map (redirected p)) (sym (get_or-map lead_in cs i r None l)))

  pub redirected_buckets : map bucket_of (set cs i n) ≡ map bucket_of cs
  redirected_buckets = map_same bucket_of cs i r n l (ap bucket_for lead ∙ same_bucket p (lead_in r) ∙ ap bucket_of is)

  pub redirected_links : map link_of (set cs i n) ≡ map link_of cs
  redirected_links = map_same link_of cs i r n l (next ∙ ap link_of is)
