-- The scan that fills the index of the advances.
use Rattle.std.proofs.Common.{◌≡◌, ◌≢◌, ℕ, zero, suc, ◌+◌, ◌<◌, true, false, List, [], ◌∷◌, ◌++◌, length, Some, None, map, refl, ap, sym, ◌∙◌, arith, cond, subst, ◌==◌, reverse, take, get_or, set, slice_get, append-nil, get_or-set_same, get_or-set_other, length-set}
use Rattle.std.specs.List.{All}
use Rattle.std.proofs.lemmas.Bool.{eqb-true, eqb-false}
use Rattle.std.proofs.lemmas.List.{map-set, length-map, get_or-map}
use Rattle.std.proofs.lemmas.List.Elements.{All-head, All-tail}
use Rattle.ec_core.specs.declared.act.Act.{Act}
use Rattle.ec_core.specs.declared.act.Act.TheVariants.{Advance}
use Rattle.ec_core.specs.declared.act.Entry.{Entry}
use Rattle.ec_core.specs.Counts.{is_advance}
use Rattle.ec_numbers.specs.Numbers.{NumberListModel}
use Rattle.ec_order.specs.Index.{advance_moments, moments_in, IsIndex, NotesAct, advanced_event}
use Rattle.ec_order.proofs.Scanning.{prefix_more, prefix_long}

pub moments_empty : (lists : List NumberListModel) → All (λ (v : NumberListModel). v.list ≡ []) lists → (e : ℕ) → moments_in lists e ≡ []
moments_empty [] h e = refl
moments_empty (v ∷ lists) h zero = All-head (λ (v : NumberListModel). v.list ≡ []) v lists h
moments_empty (v ∷ lists) h (suc e) = moments_empty lists (All-tail (λ (v : NumberListModel). v.list ≡ []) v lists h) e

pub moments_read : (lists : List NumberListModel) (e : ℕ) (v : NumberListModel) → e < length lists → v ≡ get_or lists e v → v.list ≡ moments_in lists e
moments_read lists e v low is =
    let items = λ (x : NumberListModel). x.list in
    ap items is ∙ sym (get_or-map items lists e v [] low)

moments_set : (lists : List NumberListModel) (e f : ℕ) (v : NumberListModel) → e < length lists → moments_in (set lists e v) f ≡ cond (e == f) v.list (moments_in lists f)
moments_set lists e f v low =
    let items = λ (x : NumberListModel). x.list in
    elim (e == f) as (λ b. (e == f) ≡ b → moments_in (set lists e v) f ≡ cond b v.list (moments_in lists f)) [
      | true ↦ λ q.
          (let same : e ≡ f = eqb-true e f q in
          ap (moments_in (set lists e v)) (sym same) ∙ ap (λ (xs : List (List ℕ)). get_or xs e []) (map-set items lists e v)
          ∙ get_or-set_same (map items lists) e v.list [] (omega (arith, length-map lists items)))
      | false ↦ λ q.
          (let other : f ≢ e = λ same. eqb-false e f q (sym same) in
          ap (λ (xs : List (List ℕ)). get_or xs f []) (map-set items lists e v) ∙ get_or-set_other (map items lists) e f v.list [] other)
    ] refl

pub raises : (act : Act) (f e : ℕ) → advanced_event act ≡ Some e → is_advance f act ≡ (e == f)
raises (Advance g) f e h = (let same : g ≡ e = cc in ap (λ k. k == f) same)
raises act f e h = cc

pub raises_none : (act : Act) (f : ℕ) → advanced_event act ≡ None → is_advance f act ≡ false
raises_none (Advance g) f h = cc
raises_none act f h = refl

-- what is so after the scan of the first i entries
pub record IsIndexed (h : List Entry) (i : ℕ) (lists : List NumberListModel) : Type 0 where
  pub long : length lists ≡ 32
  pub index : IsIndex (reverse (take i h)) lists

pub indexed_start : (h : List Entry) (lists : List NumberListModel) → length lists ≡ 32 → ((e : ℕ) → moments_in lists e ≡ []) → IsIndexed h 0 lists
unfolding advance_moments
indexed_start h lists long none = record { long = long; index = λ e lt. none e }

pub noted_one : (lists lists' : List NumberListModel) (act : Act) (moment e : ℕ) (v : NumberListModel) → Some e ≡ advanced_event act → e < length lists
    → v.list ≡ moments_in lists e ++ moment ∷ [] → lists' ≡ set lists e v → NotesAct lists act moment lists'
noted_one lists lists' act moment e v raised low items is = record {
  long = ap length is ∙ length-set lists e v;
  moments = λ f.
      ap (λ ls. moments_in ls f) is ∙ moments_set lists e f v low
      ∙ (elim (e == f) as (λ b. (e == f) ≡ b → cond b v.list (moments_in lists f) ≡ moments_in lists f ++ cond b (moment ∷ []) []) [
        | true ↦ λ q. items ∙ ap (λ k. moments_in lists k ++ moment ∷ []) (eqb-true e f q)
        | false ↦ λ q. sym (append-nil (moments_in lists f))
      ] refl)
      ∙ ap (λ b. moments_in lists f ++ cond b (moment ∷ []) []) (sym (raises act f e (sym raised)));
}

pub index_next : (x : Entry) (past : List Entry) (i : ℕ) (lists lists' : List NumberListModel) → i ≡ length past → IsIndex past lists → NotesAct lists x.act (i + 1) lists' → IsIndex (x ∷ past) lists'
unfolding advance_moments
index_next x past i lists lists' here s notes = λ e lt.
    notes.moments e ∙ ap (λ ms. ms ++ cond (is_advance e x.act) ((i + 1) ∷ []) []) (s e lt)
    ∙ ap (λ k. advance_moments e past ++ cond (is_advance e x.act) ((k + 1) ∷ []) []) here

pub indexed_more : (h : List Entry) (i : ℕ) (x : Entry) (lists lists' : List NumberListModel) → Some x ≡ slice_get h i → IsIndexed h i lists → NotesAct lists x.act (i + 1) lists' → IsIndexed h (i + 1) lists'
indexed_more h i x lists lists' at s notes =
    let past = reverse (take i h) in
    record {
      long = notes.long ∙ s.long;
      index = subst (λ q. IsIndex q lists') (sym (prefix_more h i x (sym at))) (index_next x past i lists lists' (prefix_long h i x (sym at)) s.index notes);
    }
