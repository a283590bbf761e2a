-- The audits of groups, one after another.
use Rattle.std.proofs.Common.{◌≡◌, ℕ, suc, ◌+◌, ◌<◌, List, [], ◌∷◌, ◌++◌, length, Some, sym, ap, ◌∙◌, subst, arith, slice_get, ◌⊎◌, inl, inr, take, map, codes, decimal, append_assoc, append-nil, length-append}
use Rattle.std.proofs.lemmas.List.{length-take-le}
use Rattle.std.proofs.lemmas.List.Concat.{flat_map-append}
use Rattle.std.proofs.lemmas.Option.{slice_get_within}
use Rattle.ec_text.specs.Puts.{Puts, OutputModel}
use Rattle.ec_text.proofs.shared.PutLemmas.{puts_then}
use Rattle.ec_heading.specs.Spelling.{lines_text, ended_line}
use Rattle.evc_engine.specs.AuditTexts.{word_after_space, spaced_numbers, group_word, audited_lines, groups_lines, audit_text}
use Rattle.evc_engine.proofs.shared.TotalLemmas.{take_next, flat_next, line_put}
use Rattle.ec_order.proofs.shared.Matching.{at_index}
use Rattle.ec_core.proofs.shared.Joining.{last_get}
use Rattle.ec_core.specs.declared.act.Entry.{Entry}
use Rattle.ec_core.specs.Audits.{IsAuditFault}
use Rattle.ec_core.specs.declared.audit.AuditFault.{AuditFault}
use Rattle.ec_core.specs.declared.audit.AuditFault.TheVariants as faults
use Rattle.ec_core.specs.Following.{BreaksAt}
use Rattle.ec_heading.specs.HeadingModel.{HeadingModel}
use Rattle.ec_heading.specs.declared.group.Group.{Group}
use Rattle.evc_engine.specs.declared.audit_result.AuditResult.{AuditResult}
use Rattle.ec_heading.specs.Rules.{group_rules}
use Rattle.evc_engine.specs.Audits.{IsAudited, IsNotFollowed, IsStop}

module _ (h : HeadingModel) (entries : List Entry) where
  -- what the audits of the first groups have found
  abbrev pub EachIsAudited : List AuditResult → Type 0
  EachIsAudited found = (i : ℕ) (g : Group) (a : AuditResult) → slice_get h.groups i ≡ Some g → slice_get found i ≡ Some a → IsAudited h entries g a

  pub none_audited : EachIsAudited []
  none_audited i g a at got = cc

  pub one_more_audited : (found : List AuditResult) (n : ℕ) (g : Group) (a : AuditResult) → n ≡ length found → slice_get h.groups n ≡ Some g → EachIsAudited found → IsAudited h entries g a
      → EachIsAudited (found ++ a ∷ [])
  one_more_audited found n g a few is each here i g' a' at got = go (last_get found a a' i got)
    where
      go : ((slice_get found i ≡ Some a') × (i < length found)) ⊎ ((i ≡ length found) × (a ≡ a')) → IsAudited h entries g' a'
      go (inl p) = each i g' a' at p.0
      go (inr p) =
          let same : i ≡ n = p.0 ∙ sym few in
          let group : Some g ≡ Some g' = sym is ∙ ap (slice_get h.groups) (sym same) ∙ at in
          let one : g ≡ g' = cc in
          subst (λ x. IsAudited h entries x a') one (subst (λ x. IsAudited h entries g x) p.1 here)

  -- the first group whose rules are broken
  pub not_followed : (found : List AuditResult) (n : ℕ) (g : Group) (w k : ℕ) → n ≡ length found → slice_get h.groups n ≡ Some g → EachIsAudited found
      → BreaksAt (group_rules h.setup h.groups g) entries w k → IsNotFollowed h entries n w k
  not_followed found n g w k few is each breaks = record {
    group = g;
    is = is;
    before = λ j g' less at. (let got = at_index found j (subst (λ m. j < m) few less) in (each j g' got.0 at got.1).0);
    breaks = breaks;
  }

  pub stops : (found : List AuditResult) (n : ℕ) (g : Group) (fault : AuditFault) → n ≡ length found → slice_get h.groups n ≡ Some g → EachIsAudited found
      → IsAuditFault (group_rules h.setup h.groups g) entries fault → IsStop h entries n fault
  stops found n g (faults.NotFollowed w k) few is each breaks = not_followed found n g w k few is each breaks
  stops found n g faults.Memory few is each breaks = tt

pub audited_length : (found : List AuditResult) (a : AuditResult) (more : List AuditResult) → more ≡ found ++ a ∷ [] → length more ≡ length found + 1
audited_length found a more is = ap length is ∙ length-append found (a ∷ [])

-- PIECES OF A TEXT

-- one more line at the end
pub line_at : {P : Type 0} (a b c : OutputModel) (f : P → List ℕ) (ps : List P) (k : ℕ) (p : P) → slice_get ps k ≡ Some p
    → Puts a b (lines_text (map f (take k ps))) → Puts b c (f p ++ 10 ∷ []) → Puts a c (lines_text (map f (take (k + 1) ps)))
line_at a b c f ps k p is before now = subst (λ l. Puts a c (lines_text (map f l))) (sym (take_next ps k p is)) (line_put a b c f (take k ps) p before now)

-- one more number at the end
pub number_at : (a b c : OutputModel) (ns : List ℕ) (k n : ℕ) → slice_get ns k ≡ Some n
    → Puts a b (spaced_numbers (take k ns)) → Puts b c (word_after_space (decimal n)) → Puts a c (spaced_numbers (take (k + 1) ns))
number_at a b c ns k n is before now =
    subst (Puts a c) (sym (flat_next (λ m. word_after_space (decimal m)) ns k n is)) (puts_then a b c _ _ before now)

-- the prefix before index k of a list has k elements
pub taken_length : {A : Type 0} (xs : List A) (k : ℕ) (x : A) → slice_get xs k ≡ Some x → length (take k xs) ≡ k
taken_length xs k x is = length-take-le k xs (let low = slice_get_within xs k x is in omega arith)

-- the lines of one more group
groups_next : (h : HeadingModel) (i : ℕ) (found : List AuditResult) (a : AuditResult)
    → lines_text (groups_lines h i (found ++ a ∷ [])) ≡ lines_text (groups_lines h i found) ++ lines_text (audited_lines h (group_word h.names (i + length found)) a)
unfolding groups_lines
groups_next h i [] a =
    (let same : i + 0 ≡ i = omega arith in
    rw same (ap lines_text (append-nil (audited_lines h (group_word h.names i) a))))
groups_next h i (f ∷ found) a =
    (let same : i + suc (length found) ≡ i + 1 + length found = omega arith in
    rw same (flat_map-append ended_line (audited_lines h (group_word h.names i) f) (groups_lines h (i + 1) (found ++ a ∷ []))
    ∙ ap (λ t. lines_text (audited_lines h (group_word h.names i) f) ++ t) (groups_next h (i + 1) found a)
    ∙ sym (append_assoc (lines_text (audited_lines h (group_word h.names i) f)) (lines_text (groups_lines h (i + 1) found)) _)
    ∙ ap (λ t. t ++ lines_text (audited_lines h (group_word h.names (i + 1 + length found)) a)) (sym (flat_map-append ended_line (audited_lines h (group_word h.names i) f) (groups_lines h (i + 1) found)))))

pub group_put : (a b c : OutputModel) (h : HeadingModel) (found : List AuditResult) (k : ℕ) (e : AuditResult) → slice_get found k ≡ Some e → length (take k found) ≡ k
    → Puts a b (lines_text (groups_lines h 0 (take k found))) → Puts b c (lines_text (audited_lines h (group_word h.names k) e))
    → Puts a c (lines_text (groups_lines h 0 (take (k + 1) found)))
group_put a b c h found k e is long before now =
    (let at : 0 + length (take k found) ≡ k = omega arith in
    subst (Puts a c)
    (sym (ap (λ l. lines_text (groups_lines h 0 l)) (take_next found k e is) ∙ groups_next h 0 (take k found) e
    ∙ ap (λ n. lines_text (groups_lines h 0 (take k found)) ++ lines_text (audited_lines h (group_word h.names n) e)) at))
    (puts_then a b c _ _ before now))

pub no_groups_put : (now : OutputModel) (h : HeadingModel)
    → Puts now now (lines_text (groups_lines h 0 []))
unfolding groups_lines
no_groups_put now h = λ first all e. rw append-nil e

-- the whole text, by its parts
pub audit_parts : (h : HeadingModel) (found : List AuditResult) → audit_text h found ≡ (ended_line (codes "evc-audit 1") ++ lines_text (groups_lines h 0 found)) ++ ended_line (codes "end")
unfolding audit_text
audit_parts h found =
    flat_map-append ended_line (codes "evc-audit 1" ∷ groups_lines h 0 found) (codes "end" ∷ [])
    ∙ ap (λ t. (ended_line (codes "evc-audit 1") ++ lines_text (groups_lines h 0 found)) ++ t) (append-nil (ended_line (codes "end")))
