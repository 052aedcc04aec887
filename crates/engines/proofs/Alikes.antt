-- Pictures and classes that mean the same, and sheets of them. Assumes nothing.
use Rattle.std.proofs.Common.{◌≡◌, ℕ, false, vec_items, vec_capacity, List, sym, ◌∙◌, ap₂, subst, subst₂, ◌≤◌, length, take, All, arith, ◌-◌}
use Rattle.std.proofs.lemmas.List.{length-map}
use Rattle.std.proofs.lemmas.List.Elements.{All-take}
use Rattle.theory.specs.Calls.{Content}
use Rattle.theory.specs.Sheet.{Picture}
use Rattle.theory.specs.Parts.{Leads, Parts}
use Rattle.theory.proofs.Small.{counts_one}
use Rattle.keepers.specs.Meaning.{rep, Settled, class_count}
use Rattle.keepers.specs.declared.keeper.Keeper.{Ghosts as Kept}
use Rattle.indexes.specs.Meaning.{held}
use Rattle.indexes.specs.declared.index.Index.{Ghosts as Found}
use Rattle.congruence.specs.declared.journal.Join.{Join}
use Rattle.congruence.specs.declared.congruence.Congruence.{Congruence}
use Rattle.congruence.specs.Drawn.{drawn, sheet, reasons}
use Rattle.congruence.specs.Working.{Books, Counted, Placed, Fresh}
use Rattle.congruence.specs.Whole.{Alike, Works}
use Rattle.congruence.proofs.Replays.{tracked_placed, fresh_take}
use Rattle.congruence.proofs.Tiers.{ready_counted}
use Rattle.congruence.proofs.Tallies.{parts_counted}
use Rattle.reasons.specs.declared.step.Step.{Step}
use Rattle.reasons.specs.Table.{Explained}
use Rattle.engines.specs.declared.entry.Entry.{Entry as Told}
use Rattle.engines.specs.Content.{taken}
use Rattle.engines.specs.Whole.{Rests}

module _ {X Y : Type 0} (kept : Kept X) where
  -- what means the same as what means the same
  pub alike_then : (c c' c'' : Congruence X Y) → Alike kept c c' → Alike kept c' c'' → Alike kept c c''
  alike_then c c' c'' h k = record { reps = k.reps ∙ h.reps; index = k.index ∙ h.index; pictures = k.pictures ∙ h.pictures; journal = k.journal ∙ h.journal }

  -- what is the same as what means the same
  pub alike_is : (c c' c'' : Congruence X Y) → Alike kept c c' → c'' ≡ c' → Alike kept c c''
  alike_is c c' c'' h e = subst (Alike kept c) (sym e) h

-- only the keeper is another, with the same representatives
pub alike_keeper : {X Y : Type 0} (kept : Kept X) (c c' : Congruence X Y) → kept.reps c'.keeper ≡ kept.reps c.keeper → c'.index ≡ c.index → c'.pictures ≡ c.pictures → c'.journal ≡ c.journal → Alike kept c c'
alike_keeper kept c c' r i p j = record { reps = r; index = i; pictures = p; journal = j }

-- where the journal tells the classes, there are as many as pictures without the joins
pub counted_told : (rs : List ℕ) (P : List Picture) (J : List Join) → Settled rs → length rs ≡ length P → Books rs P J → class_count rs ≡ length P - length J
counted_told rs P J s e b =
    counts_one (Leads (rep rs) (length P)) (length P) (class_count rs) (length P - length J)
    (subst (λ (n : ℕ). Parts (rep rs) n (class_count rs)) e (parts_counted rs s)) b.classes

module _ {X Y : Type 0} (kept : Kept X) (found : Found Y) (c c' : Congruence X Y) (h : Alike kept c c') where
  pub works_alike : Works kept found c → Works kept found c'
  works_alike w = rw (h.reps, h.index, h.pictures, h.journal) w

  pub explained_alike : (a b n : ℕ) (t t' : List Step) → Explained (sheet (vec_items c'.pictures)) (reasons (vec_items c'.journal)) a b n t t' → Explained (sheet (vec_items c.pictures)) (reasons (vec_items c.journal)) a b n t t'
  explained_alike a b n t t' x = subst₂ (λ ps js. Explained (sheet (vec_items ps)) (reasons (vec_items js)) a b n t t') h.pictures h.journal x

-- sheets whose pictures and classes mean the same, and which have the same entries
module _ {X Y : Type 0} (kept : Kept X) (found : Found Y) (c c' : Congruence X Y) (h : Alike kept c c') (es es' : List Told) (e : es' ≡ es) where
  pub whole_alike : (cap : ℕ) → Rests cap (kept.reps c.keeper) (vec_items c.pictures) (taken es) (held (found.leads c.index)) (vec_items c.journal) →
      Rests cap (kept.reps c'.keeper) (vec_items c'.pictures) (taken es') (held (found.leads c'.index)) (vec_items c'.journal)
  whole_alike cap w = rw (h.reps, h.index, h.pictures, h.journal, e) w

  pub content_alike :
      ◌≡◌ {A = Content} (record { locked = false; pictures = sheet (vec_items c'.pictures); entries = taken es' }) (record { locked = false; pictures = sheet (vec_items c.pictures); entries = taken es })
  content_alike = ap₂ (λ ps fs. record { locked = false; pictures = sheet (vec_items ps); entries = taken fs }) h.pictures e

-- WHAT IS ASKED WHERE ENTRIES ARE TAKEN BACK
pub record Restorable {X Y : Type 0} (kept : Kept X) (c : Congruence X Y) (to : ℕ) : Type 0 where
  pub counted : Counted (kept.reps c.keeper) (vec_items c.pictures)
  pub limit : length (vec_items c.pictures) ≤ kept.limit
  pub placed : All (Placed (sheet (vec_items c.pictures))) (take to (vec_items c.journal))
  pub fresh : Fresh (sheet (vec_items c.pictures)) (take to (vec_items c.journal))
  pub room : 1024 ≤ vec_capacity c.journal

pub restorable : {X Y : Type 0} (kept : Kept X) (found : Found Y) (c : Congruence X Y) (to : ℕ) → Works kept found c → Fresh (sheet (vec_items c.pictures)) (vec_items c.journal) →
    length (sheet (vec_items c.pictures)) ≤ kept.limit → 1024 ≤ vec_capacity c.journal → Restorable kept c to
restorable kept found c to w f l r =
    let ps = vec_items c.pictures in
    let J = vec_items c.journal in
    record {
      counted = ready_counted (kept.reps c.keeper) ps w.ready;
      limit = omega (arith, l, length-map ps drawn);
      placed = All-take (Placed (sheet ps)) to J (tracked_placed (sheet ps) J (rep (kept.reps c.keeper)) w.books.tracks);
      fresh = fresh_take (sheet ps) J to f;
      room = r;
    }
