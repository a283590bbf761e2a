-- A kind is reported for a line exactly if it is the least that holds.
use Rattle.std.proofs.Common.{◌≡◌, ◌≢◌, ◌⊎◌, inl, inr, ℕ, ◌<◌, ◌==◌, ◌&&◌, List, [], ◌∷◌, length, Bool, true, false, not, cond, Option, Some, None, Result, Ok, Err, option_map, is_some, is_none, refl, sym, ap, ◌∙◌, subst, arith, codes, bytes_eq, nat_lt}
use Rattle.std.specs.Bool.{Decides}
use Rattle.std.specs.Prelude.{◌↔◌}
use Rattle.std.specs.List.{AllByRecursion, list_any}
use Rattle.std.specs.Option.{option_map_or}
use Rattle.std.proofs.lemmas.Bool.{true≢false, and_parts, and_from, or_parts, or_from, ltb-false, le-ltb, ne_eqb, not_from_false}
use Rattle.std.proofs.lemmas.Bool.Decides.{Decides-like, Decides-or, Decides-and, Decides-eqb}
use Rattle.std.proofs.lemmas.Option.{same_Some}
use Rattle.std.proofs.lemmas.Slice.Eq.{bytes_eq-Decides}
use Rattle.ec_text.specs.Words.{words_of, number_in_word, is_number_form}
use Rattle.ec_heading.specs.Versions.{is_limit, version_of}
use Rattle.ec_script.specs.Headers.{script_header, version_limit, VersionLimitModel}
use Rattle.ec_heading.specs.declared.version.Version.{Version}
use Rattle.ec_heading.specs.declared.version.Version.TheVariants.{One, Two}
use Rattle.ec_heading.proofs.shared.VersionFacts.{version_none, version_none_from}
use Rattle.ec_heading.specs.declared.heading.HeadFault.{HeadFault}
use Rattle.ec_heading.specs.declared.heading.HeadFault.TheVariants as heads
use Rattle.ec_heading.specs.declared.decl_kind.DeclKind.{DeclKind}
use Rattle.ec_heading.specs.declared.decl_kind.DeclKind.TheVariants as sorts
use Rattle.ec_heading.specs.Form as headings
use Rattle.ec_heading.specs.HeadingModel.{HeadingModel}
use Rattle.ec_heading.specs.Heading as heading
use Rattle.ec_heading.specs.Heading.{head_step, is_no_line, workers_in, declared_or, opened_by, words_step}
use Rattle.ec_heading.specs.Kinds.{workers_fault, declaration_fault, declaration_of}
use Rattle.ec_heading.specs.HeaderTree.{empty_heading, with_declaration}
use Rattle.ec_heading.specs.HeadingInvariant.{HasHeaderTree}
use Rattle.ec_heading.specs.DeclKinds.{sort_word}
use Rattle.ec_heading.specs.Phrased.{IsSpelled}
use Rattle.ec_heading.proofs.shared.Phrases.{parts_spelled, spelled_parts}
use Rattle.ec_heading.proofs.shared.ReadHeadings.{IsSound, sound}
use Rattle.ec_script.specs.declared.fault.Kind.{Kind}
use Rattle.ec_script.specs.declared.fault.Kind.TheVariants as kinds
use Rattle.ec_script.specs.declared.script.OpenBlock.{OpenBlock}
use Rattle.ec_script.specs.declared.stage.Stage.{Stage}
use Rattle.ec_script.specs.declared.stage.Stage.TheVariants.{Opening, Limiting, Naming, Reading}
use Rattle.ec_script.specs.declared.verb.LineWord.{LineWord}
use Rattle.ec_script.specs.declared.verb.LineWord.TheVariants as verbs
use Rattle.ec_script.specs.Endings.{FaultlessLinesAreAccepted}
use Rattle.ec_script.specs.Faults.{kind_number, kind_of_head}
use Rattle.ec_script.specs.Forms.{Phrase, phrase_in, Worded}
use Rattle.ec_script.specs.Grammar.{Leads}
use Rattle.ec_script.specs.Holding.{LimitHas, WorkersHave, DeclarationHas, OtherHas, OfForm, OfEither, HasKind, LeastKindWins}
use Rattle.ec_script.specs.Kinds.{is_allowed, phrase_fault}
use Rattle.ec_script.specs.Objects.{object_in}
use Rattle.ec_script.specs.Placed.{IsOfWords, IsLimitLine, IsWorkersLine, IsDeclaration, MayOccur, IsOther}
use Rattle.ec_script.specs.Reading.{view_of_block, context_of_script, after, fault_or, after_phrase, map_heading, is_declaring, opens_outer, script_step, stage_of_version, after_limit, limit_digits, limit_or, limit_step, stage_of_heading, read_on, step}
use Rattle.ec_script.specs.ScriptModel.{ScriptModel}
use Rattle.ec_heading.specs.Versions.{has_transfer}
use Rattle.ec_script.specs.Verbs.{has_verb, is_outer}
use Rattle.ec_script.proofs.Deciding.{never}
use Rattle.ec_script.proofs.HeadKinds.{limit_tests, limit_decided, workers_tests, workers_decided, workers_least, declaration_tests, declaration_decided, declaration_least}
use Rattle.ec_script.proofs.shared.Keeping.{Keeps, leads_keeps}
use Rattle.ec_script.proofs.Least.{least, least_holds, none_holds}
use Rattle.ec_script.proofs.LedHeadings.{lines_outlined}
use Rattle.ec_script.proofs.OtherKinds.{other_tests, other_decided, other_least}
use Rattle.ec_script.proofs.PhraseWords.{worded, worded_again, verb_again}

-- THE FAULT THAT IS REPORTED

abbrev fault_in : {S : Type 0} → Result S Kind → Option Kind
fault_in (Ok s) = None
fault_in (Err k) = Some k

err_of : {S : Type 0} (r : Result S Kind) (k : Kind) → fault_in r ≡ Some k → r ≡ Err k
err_of (Ok s) k is = cc
err_of (Err l) k is = ap Err (same_Some l k is)

-- the fault of a line is the least whose test holds, and each test decides its proposition
record Tested {S : Type 0} (r : Result S Kind) (T : Kind → Type 0) : Type 0 where
  tests : Kind → Bool
  is : fault_in r ≡ least tests
  decides : (k : Kind) → Decides (tests k) (T k)

told_so : {S : Type 0} (r : Result S Kind) (T : Kind → Type 0) → Tested r T → (k : Kind) → (r ≡ Err k) ↔ (T k × ((j : Kind) → kind_number j < kind_number k → T j → ⊥))
told_so r T t k =
    let h = least_holds t.tests T t.decides k in
    ((λ e. h.0 (sym t.is ∙ ap fault_in e)), λ w. err_of r k (t.is ∙ h.1 w))

ok_of : {S : Type 0} (r : Result S Kind) → fault_in r ≡ None → (s : S) × (r ≡ Ok s)
ok_of (Ok s) is = (s, refl)
ok_of (Err k) is = cc

taken_so : {S : Type 0} (r : Result S Kind) (T : Kind → Type 0) → Tested r T → ((s : S) × (r ≡ Ok s)) ↔ ((k : Kind) → T k → ⊥)
taken_so r T t =
    let h = none_holds t.tests T t.decides in
    ((λ o. h.0 (sym t.is ∙ ap fault_in o.1)), λ w. ok_of r (t.is ∙ h.1 w))

-- LINES OF A FORM

abbrev form_tests : {F : Type 0} → Option F → (F → Kind → Bool) → Kind → Bool
form_tests None t kinds.BadLine = true
form_tests None t _ = false
form_tests (Some f) t k = t f k

-- a line is read as a form exactly if it has it
record Reads {F : Type 0} (o : Option F) (Is : F → Type 0) : Type 0 where
  has : (f : F) → o ≡ Some f → Is f
  read : (f : F) → Is f → o ≡ Some f

unread : {F : Type 0} (Is : F → Type 0) → Reads None Is → (f : F) → Is f → ⊥
unread Is reads f is = (let e : None ≡ Some f = reads.read f is in cc)

same_form : {F : Type 0} (Is : F → Type 0) (f g : F) → Reads (Some f) Is → Is g → f ≡ g
same_form Is f g reads is = same_Some f g (reads.read g is)

-- what the tests of a form decide of a line
record Decided {F : Type 0} (Is : F → Type 0) (Has : F → Kind → Type 0) (t : F → Kind → Bool) : Type 0 where
  line : (f : F) → Is f → t f kinds.BadLine ≡ false
  each : (f : F) (k : Kind) → Is f → Decides (t f k) (Has f k)

formed : {F : Type 0} (o : Option F) (Is : F → Type 0) (Has : F → Kind → Type 0) (t : F → Kind → Bool) → Reads o Is → Decided Is Has t → (k : Kind) → Decides (form_tests o t k) (OfForm Is Has k)
formed None Is Has t reads d kinds.BadLine = ((λ e. unread Is reads), λ n. refl)
formed None Is Has t reads d k = never (λ h. unread Is reads h.0 h.1)
formed (Some f) Is Has t reads d kinds.BadLine =
    let is : Is f = reads.has f refl in
    ((λ e. absurd (true≢false (sym e ∙ d.line f is))), λ n. absurd (n f is))
formed (Some f) Is Has t reads d k =
    let is : Is f = reads.has f refl in
    ((λ e. (f, is, (d.each f k is).0 e)), λ h. (d.each f k is).1 (subst (λ g. Has g k) (sym (same_form Is f h.0 reads h.1)) h.2))

-- THE WORDS OF A LINE

each_word : (ws : List (List ℕ)) → list_any (λ w. length w == 0) ws ≡ false → AllByRecursion (λ w. w ≢ []) ws
each_word [] none = tt
each_word (w ∷ ws) none =
    let p = or_parts (length w == 0) (list_any (λ v. length v == 0) ws) none in
    ((λ empty. true≢false (sym (ap (λ (v : List ℕ). length v == 0) empty) ∙ p.0)), each_word ws p.1)

no_length : (w : List ℕ) → w ≢ [] → (length w == 0) ≡ false
no_length [] some = absurd (some refl)
no_length (b ∷ w) some = ne_eqb (length (b ∷ w)) 0 (λ e. omega (arith, e))

word_each : (ws : List (List ℕ)) → AllByRecursion (λ w. w ≢ []) ws → list_any (λ w. length w == 0) ws ≡ false
word_each [] all = refl
word_each (w ∷ ws) all = or_from _ _ (no_length w all.0) (word_each ws all.1)

of_words : (line : List ℕ) → is_no_line line ≡ false → IsOfWords line
of_words line none = (let p = or_parts (nat_lt 8192 (length line)) (list_any (λ w. length w == 0) (words_of line)) none in (ltb-false 8192 (length line) p.0, each_word (words_of line) p.1))

words_so : (line : List ℕ) → IsOfWords line → is_no_line line ≡ false
words_so line is = or_from _ _ (le-ltb 8192 (length line) is.0) (word_each (words_of line) is.1)

-- LINE 1

abbrev opening_tests : List ℕ → Kind → Bool
opening_tests line kinds.BadHeader = is_none (version_of script_header line)
opening_tests line _ = false

none_there : (o : Option Version) → is_none o ≡ true → o ≡ None
none_there None e = refl
none_there (Some v) e = cc

opening_decided : (line : List ℕ) (k : Kind) → Decides (opening_tests line k) (HasKind Opening line k)
opening_decided line kinds.BadHeader = (
  (λ e. version_none script_header line (none_there (version_of script_header line) e)),
  λ other. ap is_none (version_none_from script_header line other),
)
opening_decided line _ = never (λ t. t)

opening_least : (line : List ℕ) → fault_in (step Opening line) ≡ least (opening_tests line)
unfolding step
opening_least line = elim (version_of script_header line) as (λ o. fault_in (stage_of_version o) ≡ cond (is_none o) (Some kinds.BadHeader) None) [ None ↦ refl | Some v ↦ refl ]

-- THE LIMIT

abbrev limit_form : List ℕ → Option (List ℕ)
limit_form line = cond (nat_lt 8192 (length line)) None (limit_digits (words_of line))

digits_have : (ws : List (List ℕ)) (digits : List ℕ) → limit_digits ws ≡ Some digits → (ws ≡ codes "limit" ∷ digits ∷ []) × (is_number_form digits ≡ true)
digits_have [] digits is = cc
digits_have (w ∷ []) digits is = cc
digits_have (w ∷ n ∷ []) digits is =
    (elim (bytes_eq w (codes "limit") && is_number_form n) as (λ b. (bytes_eq w (codes "limit") && is_number_form n) ≡ b → cond b (Some n) None ≡ Some digits → (w ∷ n ∷ [] ≡ codes "limit" ∷ digits ∷ []) × (is_number_form digits ≡ true)) [
      | true ↦ λ e h.
          (let p = and_parts (bytes_eq w (codes "limit")) (is_number_form n) e in
          let same : n ≡ digits = same_Some n digits h in
          let word : w ≡ codes "limit" = (bytes_eq-Decides w (codes "limit")).0 p.0 in
          (ap (λ (v : List ℕ). v ∷ n ∷ []) word ∙ ap (λ (v : List ℕ). codes "limit" ∷ v ∷ []) same, ap is_number_form (sym same) ∙ p.1))
      | false ↦ λ e h. cc
    ]) refl is
digits_have (w ∷ n ∷ v ∷ ws) digits is = cc

limit_reads : (line : List ℕ) → Reads (limit_form line) (IsLimitLine line)
limit_reads line = record {
  has = λ digits is. (elim (nat_lt 8192 (length line)) as (λ b. nat_lt 8192 (length line) ≡ b → cond b None (limit_digits (words_of line)) ≡ Some digits → IsLimitLine line digits) [
    | true ↦ λ e h. cc
    | false ↦ λ e h. (let d = digits_have (words_of line) digits h in (ltb-false 8192 (length line) e, d.0, d.1))
  ]) refl is;
  read = λ digits is.
      ap (λ b. cond b None (limit_digits (words_of line))) (le-ltb 8192 (length line) is.0) ∙ ap limit_digits is.1 ∙ ap (λ b. cond b (Some digits) None) is.2;
}

limit_least : (v : Version) (line : List ℕ) → fault_in (limit_step v line) ≡ least (form_tests (limit_form line) (limit_tests v))
unfolding limit_step
limit_least v line =
    elim (nat_lt 8192 (length line)) as (λ b. fault_in (cond b (Err kinds.BadLine) (limit_or v (limit_digits (words_of line)))) ≡ least (form_tests (cond b None (limit_digits (words_of line))) (limit_tests v))) [
      | true ↦ refl
      | false ↦ elim (limit_digits (words_of line)) as (λ o. fault_in (limit_or v o) ≡ least (form_tests o (limit_tests v))) [
        | None ↦ refl
        | Some digits ↦ elim (number_in_word digits) as (λ o. fault_in (after_limit v o) ≡ cond (not (option_map_or (is_limit v) o false)) (Some kinds.BadNumber) None) [
          | None ↦ refl
          | Some n ↦ elim (is_limit v n) as (λ b. fault_in (cond b (Ok (Naming (version_limit v n))) (Err kinds.BadNumber)) ≡ cond (not b) (Some kinds.BadNumber) None) [ true ↦ refl | false ↦ refl ]
        ]
      ]
    ]

-- THE WORKERS

abbrev workers_form : List ℕ → Option (List (List ℕ))
workers_form line = cond (is_no_line line) None (workers_in (words_of line))

names_have : (ws names : List (List ℕ)) → workers_in ws ≡ Some names → (ws ≡ codes "workers" ∷ names) × (names ≢ [])
names_have [] names is = cc
names_have (w ∷ []) names is = cc
names_have (w ∷ v ∷ vs) names is =
    (elim (bytes_eq w (codes "workers")) as (λ b. bytes_eq w (codes "workers") ≡ b → cond b (Some (v ∷ vs)) None ≡ Some names → (w ∷ v ∷ vs ≡ codes "workers" ∷ names) × (names ≢ [])) [
      | true ↦ λ e h.
          (let same : v ∷ vs ≡ names = same_Some (v ∷ vs) names h in
          let word : w ≡ codes "workers" = (bytes_eq-Decides w (codes "workers")).0 e in
          (ap (λ (x : List ℕ). x ∷ v ∷ vs) word ∙ ap (λ (xs : List (List ℕ)). codes "workers" ∷ xs) same, (λ none. (let k : v ∷ vs ≡ [] = same ∙ none in cc))))
      | false ↦ λ e h. cc
    ]) refl is

names_read : (names : List (List ℕ)) → names ≢ [] → workers_in (codes "workers" ∷ names) ≡ Some names
names_read [] some = absurd (some refl)
names_read (v ∷ vs) some = refl

workers_reads : (line : List ℕ) → Reads (workers_form line) (IsWorkersLine line)
workers_reads line = record {
  has = λ names is. (elim (is_no_line line) as (λ b. is_no_line line ≡ b → cond b None (workers_in (words_of line)) ≡ Some names → IsWorkersLine line names) [
    | true ↦ λ e h. cc
    | false ↦ λ e h. (let d = names_have (words_of line) names h in (of_words line e, d.0, d.1))
  ]) refl is;
  read = λ names is. ap (λ b. cond b None (workers_in (words_of line))) (words_so line is.0) ∙ ap workers_in is.1 ∙ names_read names is.2;
}

named_fault : (o : Option HeadFault) (h : HeadingModel) → fault_in (stage_of_heading (heading.fault_or o h)) ≡ option_map kind_of_head o
named_fault None h = refl
named_fault (Some f) h = refl

naming_least : (b : VersionLimitModel) (line : List ℕ) → fault_in (step (Naming b) line) ≡ least (form_tests (workers_form line) workers_tests)
unfolding step head_step
naming_least b line =
    elim (is_no_line line) as (λ c. fault_in (stage_of_heading (cond c (Err heads.BadLine) (words_step (empty_heading b.version b.limit []) (words_of line)))) ≡ least (form_tests (cond c None (workers_in (words_of line))) workers_tests)) [
      | true ↦ refl
      | false ↦ elim (workers_in (words_of line)) as (λ o. fault_in (stage_of_heading (opened_by b.version b.limit o)) ≡ least (form_tests o workers_tests)) [
        | None ↦ refl
        | Some names ↦ named_fault (workers_fault names) (empty_heading b.version b.limit names) ∙ workers_least names
      ]
    ]

-- LINES AFTER THE WORKERS

-- a declaration, or another line
abbrev IsForm : ScriptModel → List ℕ → headings.Phrase ⊎ Phrase → Type 0
IsForm s line (inl p) = IsDeclaration s line p
IsForm s line (inr p) = IsOther s line p

abbrev FormHas : ScriptModel → headings.Phrase ⊎ Phrase → Kind → Type 0
FormHas s (inl p) kind = DeclarationHas s.heading p kind
FormHas s (inr p) kind = OtherHas s p kind

abbrev reading_tests : ScriptModel → headings.Phrase ⊎ Phrase → Kind → Bool
reading_tests s (inl p) k = declaration_tests s.heading p k
reading_tests s (inr p) k = other_tests s p k

abbrev allowed : ScriptModel → Phrase → Bool
allowed s p = has_verb s.heading.version p.verb && is_allowed p.verb (is_some (option_map view_of_block s.block)) (length s.schedule)

abbrev declared_form : Option headings.Phrase → Option (headings.Phrase ⊎ Phrase)
declared_form None = None
declared_form (Some p) = Some (inl p)

abbrev other_form : ScriptModel → Option Phrase → Option (headings.Phrase ⊎ Phrase)
other_form s None = None
other_form s (Some p) = cond (allowed s p) (Some (inr p)) None

abbrev reading_form : ScriptModel → List ℕ → Option (headings.Phrase ⊎ Phrase)
reading_form s line =
    cond (is_declaring s && not (opens_outer (words_of line))) (cond (is_no_line line) None (declared_form (headings.parts_in (words_of line))))
    (cond (is_no_line line) None (other_form s (phrase_in (words_of line))))

-- where a line is allowed
block_is : (o : Option OpenBlock) → Decides (is_some (option_map view_of_block o)) (o ≢ None)
block_is None = ((λ e. cc), λ n. absurd (n refl))
block_is (Some b) = ((λ e k. cc), λ n. refl)

empty_is : {X : Type 0} (xs : List X) → Decides (length xs == 0) (xs ≡ [])
empty_is [] = ((λ e. refl), λ e. refl)
empty_is (x ∷ xs) = ((λ e. absurd (let k = (Decides-eqb (length (x ∷ xs)) 0).0 e in omega (arith, k))), λ e. cc)

two_is : (v : Version) → Decides (has_transfer v) (v ≡ Two)
two_is One = ((λ e. cc), λ e. cc)
two_is Two = ((λ e. refl), λ e. refl)

place_decided : (s : ScriptModel) (v : LineWord) → Decides (has_verb s.heading.version v && is_allowed v (is_some (option_map view_of_block s.block)) (length s.schedule)) (MayOccur s v)
place_decided s verbs.Schedule = ((λ e. tt), λ t. refl)
place_decided s verbs.Worker = Decides-or (is_some (option_map view_of_block s.block)) (length s.schedule == 0) (block_is s.block) (empty_is s.schedule)
place_decided s verbs.Hand = Decides-and (has_transfer s.heading.version) (is_some (option_map view_of_block s.block)) (two_is s.heading.version) (block_is s.block)
place_decided s _ = block_is s.block

-- a declaration opens with no word of the others
sort_opens : (s : DeclKind) (ws : List (List ℕ)) → opens_outer (sort_word s ∷ ws) ≡ false
sort_opens sorts.EventCount ws = refl
sort_opens sorts.Sequencer ws = refl
sort_opens sorts.Cells ws = refl
sort_opens sorts.Buffer ws = refl
sort_opens sorts.Database ws = refl
sort_opens sorts.Semaphore ws = refl
sort_opens sorts.Both ws = refl

opens_with : (s : DeclKind) {ws vs : List (List ℕ)} → ws ≡ sort_word s ∷ vs → opens_outer ws ≡ false
opens_with s {ws} {vs} is = ap opens_outer is ∙ sort_opens s vs

declaration_opens : (ws : List (List ℕ)) (p : headings.Phrase) → IsSpelled ws p → opens_outer ws ≡ false
declaration_opens ws p is = opens_with p.sort is.words

phrase_opens : (ws : List (List ℕ)) (p : Phrase) → Worded ws p → opens_outer ws ≡ is_outer p.verb
phrase_opens ws p is = ap opens_outer is.are ∙ ap (λ o. option_map_or is_outer o false) (verb_again p.verb)

-- no block is open while declarations may come
behind_begun : (s : ScriptModel) → Keeps s → is_declaring s ≡ true → s.block ≡ None
behind_begun s keeps declaring =
    let p = and_parts (length s.named == 0) (length s.schedule == 0) declaring in
    (keeps.early ((Decides-eqb (length s.named) 0).0 p.0)).0

stands_behind : (s : ScriptModel) (v : LineWord) → Keeps s → MayOccur s v → is_declaring s ≡ true → is_outer v ≡ true
stands_behind s verbs.Worker keeps may declaring = refl
stands_behind s verbs.Schedule keeps may declaring = refl
stands_behind s verbs.Hand keeps may declaring = absurd (may.1 (behind_begun s keeps declaring))
stands_behind s _ keeps may declaring = absurd (may (behind_begun s keeps declaring))

other_behind : (s : ScriptModel) (line : List ℕ) (p : Phrase) → Keeps s → IsOther s line p → (is_declaring s && not (opens_outer (words_of line))) ≡ false
other_behind s line p keeps is =
    (elim (is_declaring s) as (λ b. is_declaring s ≡ b → (b && not (opens_outer (words_of line))) ≡ false) [
      | true ↦ λ e. ap not (phrase_opens (words_of line) p is.form ∙ stands_behind s p.verb keeps is.place e)
      | false ↦ λ e. refl
    ]) refl

declaration_before : (s : ScriptModel) (line : List ℕ) (p : headings.Phrase) → IsDeclaration s line p → (is_declaring s && not (opens_outer (words_of line))) ≡ true
declaration_before s line p is =
    and_from (is_declaring s) (not (opens_outer (words_of line)))
    (and_from (length s.named == 0) (length s.schedule == 0) ((empty_is s.named).1 is.first.0) ((empty_is s.schedule).1 is.first.1))
    (not_from_false (opens_outer (words_of line)) (declaration_opens (words_of line) p is.form))

declared_has : (s : ScriptModel) (line : List ℕ) (f : headings.Phrase ⊎ Phrase) → is_declaring s ≡ true → is_no_line line ≡ false → declared_form (headings.parts_in (words_of line)) ≡ Some f → IsForm s line f
declared_has s line f declaring plain is =
    (elim (headings.parts_in (words_of line)) as (λ o. headings.parts_in (words_of line) ≡ o → declared_form o ≡ Some f → IsForm s line f) [
      | None ↦ λ e h. cc
      | Some p ↦ λ e h.
          (let q = and_parts (length s.named == 0) (length s.schedule == 0) declaring in
          let d : IsForm s line (inl p) = record { first = ((empty_is s.named).0 q.0, (empty_is s.schedule).0 q.1); whole = of_words line plain; form = parts_spelled (words_of line) p e } in
          subst (IsForm s line) (same_Some (inl p) f h) d)
    ]) refl is

other_has : (s : ScriptModel) (line : List ℕ) (f : headings.Phrase ⊎ Phrase) → is_no_line line ≡ false → other_form s (phrase_in (words_of line)) ≡ Some f → IsForm s line f
other_has s line f plain is =
    (elim (phrase_in (words_of line)) as (λ o. phrase_in (words_of line) ≡ o → other_form s o ≡ Some f → IsForm s line f) [
      | None ↦ λ e h. cc
      | Some p ↦ λ e h. (elim (allowed s p) as (λ b. allowed s p ≡ b → cond b (Some (inr p)) None ≡ Some f → IsForm s line f) [
        | true ↦ λ a k.
            (let d : IsForm s line (inr p) = record { place = (place_decided s p.verb).0 a; whole = of_words line plain; form = worded (words_of line) p e } in
            subst (IsForm s line) (same_Some (inr p) f k) d)
        | false ↦ λ a k. cc
      ]) refl h
    ]) refl is

reading_has : (s : ScriptModel) (line : List ℕ) (f : headings.Phrase ⊎ Phrase) → reading_form s line ≡ Some f → IsForm s line f
reading_has s line f is =
    (elim (is_declaring s && not (opens_outer (words_of line))) as (λ a. (is_declaring s && not (opens_outer (words_of line))) ≡ a
    → cond a (cond (is_no_line line) None (declared_form (headings.parts_in (words_of line)))) (cond (is_no_line line) None (other_form s (phrase_in (words_of line)))) ≡ Some f → IsForm s line f) [
      | true ↦ λ e h. (elim (is_no_line line) as (λ b. is_no_line line ≡ b → cond b None (declared_form (headings.parts_in (words_of line))) ≡ Some f → IsForm s line f) [
        | true ↦ λ n k. cc
        | false ↦ λ n k. declared_has s line f (and_parts (is_declaring s) (not (opens_outer (words_of line))) e).0 n k
      ]) refl h
      | false ↦ λ e h. (elim (is_no_line line) as (λ b. is_no_line line ≡ b → cond b None (other_form s (phrase_in (words_of line))) ≡ Some f → IsForm s line f) [
        | true ↦ λ n k. cc
        | false ↦ λ n k. other_has s line f n k
      ]) refl h
    ]) refl is

reading_read : (s : ScriptModel) (line : List ℕ) → Keeps s → (f : headings.Phrase ⊎ Phrase) → IsForm s line f → reading_form s line ≡ Some f
reading_read s line keeps (inl p) is =
    ap (λ a. cond a (cond (is_no_line line) None (declared_form (headings.parts_in (words_of line)))) (cond (is_no_line line) None (other_form s (phrase_in (words_of line))))) (declaration_before s line p is)
    ∙ ap (λ b. cond b None (declared_form (headings.parts_in (words_of line)))) (words_so line is.whole)
    ∙ ap declared_form (spelled_parts (words_of line) p is.form)
reading_read s line keeps (inr p) is =
    ap (λ a. cond a (cond (is_no_line line) None (declared_form (headings.parts_in (words_of line)))) (cond (is_no_line line) None (other_form s (phrase_in (words_of line))))) (other_behind s line p keeps is)
    ∙ ap (λ b. cond b None (other_form s (phrase_in (words_of line)))) (words_so line is.whole)
    ∙ ap (other_form s) (worded_again (words_of line) p is.form)
    ∙ ap (λ b. cond b (Some (inr p)) None) ((place_decided s p.verb).1 is.place)

reading_reads : (s : ScriptModel) (line : List ℕ) → Keeps s → Reads (reading_form s line) (IsForm s line)
reading_reads s line keeps = record { has = reading_has s line; read = reading_read s line keeps }

-- the fault of a line by its form
headed_fault : (s : ScriptModel) (o : Option HeadFault) (h : HeadingModel) → fault_in (map_heading s (heading.fault_or o h)) ≡ option_map kind_of_head o
headed_fault s None h = refl
headed_fault s (Some f) h = refl

phrase_told : (s t : ScriptModel) (o : Option Kind) → fault_in (fault_or o t) ≡ o
phrase_told s t None = refl
phrase_told s t (Some k) = refl

declared_least : (s : ScriptModel) (o : Option headings.Phrase) → fault_in (map_heading s (declared_or s.heading o)) ≡ least (form_tests (declared_form o) (reading_tests s))
declared_least s None = refl
declared_least s (Some p) = headed_fault s (declaration_fault s.heading.setup s.heading.words p) (with_declaration s.heading (declaration_of s.heading.words p)) ∙ declaration_least s.heading p

phrase_least : (s : ScriptModel) (p : Phrase) → phrase_fault (context_of_script s) p (object_in s.heading p) ≡ least (form_tests (cond (allowed s p) (Some (inr p)) None) (reading_tests s))
phrase_least s p =
    (elim (allowed s p) as (λ b. allowed s p ≡ b → phrase_fault (context_of_script s) p (object_in s.heading p) ≡ least (form_tests (cond b (Some (inr p)) None) (reading_tests s))) [
      | true ↦ λ e. other_least s p e
      | false ↦ λ e. rw e refl
    ]) refl

others_least : (s : ScriptModel) (o : Option Phrase) → fault_in (after_phrase s o) ≡ least (form_tests (other_form s o) (reading_tests s))
others_least s None = refl
others_least s (Some p) = phrase_told s (after s p) (phrase_fault (context_of_script s) p (object_in s.heading p)) ∙ phrase_least s p

-- a header with workers accepts only declarations
behind_workers : (h : HeadingModel) (line : List ℕ) → (h.setup.workers == 0) ≡ false → head_step h line ≡ cond (is_no_line line) (Err heads.BadLine) (declared_or h (headings.parts_in (words_of line)))
unfolding head_step
behind_workers h line some = ap (λ b. cond (is_no_line line) (Err heads.BadLine) (cond b (opened_by h.version h.setup.limit (workers_in (words_of line))) (declared_or h (headings.parts_in (words_of line))))) some

reading_least : (s : ScriptModel) (line : List ℕ) → Keeps s → fault_in (script_step s line) ≡ least (form_tests (reading_form s line) (reading_tests s))
unfolding script_step
reading_least s line keeps =
    let some : (s.heading.setup.workers == 0) ≡ false = ne_eqb s.heading.setup.workers 0 (λ e. omega (arith, e, keeps.head.some)) in
    elim (is_declaring s && not (opens_outer (words_of line))) as (λ a.
    fault_in (cond a (map_heading s (head_step s.heading line)) (cond (is_no_line line) (Err kinds.BadLine) (after_phrase s (phrase_in (words_of line)))))
    ≡ least (form_tests (cond a (cond (is_no_line line) None (declared_form (headings.parts_in (words_of line)))) (cond (is_no_line line) None (other_form s (phrase_in (words_of line))))) (reading_tests s))) [
      | true ↦
          ap (λ r. fault_in (map_heading s r)) (behind_workers s.heading line some)
          ∙ elim (is_no_line line) as (λ b. fault_in (map_heading s (cond b (Err heads.BadLine) (declared_or s.heading (headings.parts_in (words_of line))))) ≡ least (form_tests (cond b None (declared_form (headings.parts_in (words_of line)))) (reading_tests s))) [
            | true ↦ refl
            | false ↦ declared_least s (headings.parts_in (words_of line))
          ]
      | false ↦ elim (is_no_line line) as (λ b. fault_in (cond b (Err kinds.BadLine) (after_phrase s (phrase_in (words_of line)))) ≡ least (form_tests (cond b None (other_form s (phrase_in (words_of line)))) (reading_tests s))) [
        | true ↦ refl
        | false ↦ others_least s (phrase_in (words_of line))
      ]
    ]

reading_decided : (s : ScriptModel) (line : List ℕ) → HasHeaderTree s.heading → Decided (IsForm s line) (FormHas s) (reading_tests s)
reading_decided s line has =
    let sound : IsSound s.heading = subst IsSound has.declares (sound has.outline has.is) in
    record {
      line = λ f is. elim f as (λ g. reading_tests s g kinds.BadLine ≡ false) [ inl p ↦ refl | inr p ↦ refl ];
      each = λ f k is. (elim f as (λ g. IsForm s line g → Decides (reading_tests s g k) (FormHas s g k)) [
        | inl p ↦ λ d. declaration_decided s.heading p k sound.bounds
        | inr p ↦ λ d. other_decided s p k (inr has) d.form.tail
      ]) is;
    }

-- one of both forms
either_line : (s : ScriptModel) (line : List ℕ) (b : Bool) (k : Kind) → Decides b (OfForm (IsForm s line) (FormHas s) k) → Decides b (OfEither s line k)
either_line s line b kinds.BadLine d =
    Decides-like b (λ none. ((λ p is. none (inl p) is), λ p is. none (inr p) is)) (λ none f. (elim f as (λ g. IsForm s line g → ⊥) [ inl p ↦ none.0 p | inr p ↦ none.1 p ])) d
either_line s line b k d =
    Decides-like b
    (λ h. (elim h.0 as (λ g. IsForm s line g → FormHas s g k → OfEither s line k) [ inl p ↦ λ is has. inl (p, is, has) | inr p ↦ λ is has. inr (p, is, has) ]) h.1 h.2)
    (λ h. elim h as (λ x. OfForm (IsForm s line) (FormHas s) k) [ inl t ↦ (inl t.0, t.1, t.2) | inr t ↦ (inr t.0, t.1, t.2) ]) d

read_fault : (r : Result ScriptModel Kind) → fault_in (read_on r) ≡ fault_in r
read_fault (Ok s) = refl
read_fault (Err k) = refl

-- ANY LINE

abbrev StageFits : Stage → Type 0
StageFits (Reading s) = Keeps s × HasHeaderTree s.heading
StageFits _ = Unit {0}

limit_kinds : (v : Version) (line : List ℕ) → Decided (IsLimitLine line) (LimitHas v) (limit_tests v)
limit_kinds v line = record { line = λ digits is. refl; each = λ digits k is. limit_decided v digits k }

workers_kinds : (line : List ℕ) → Decided (IsWorkersLine line) WorkersHave workers_tests
workers_kinds line = record { line = λ names is. refl; each = λ names k is. workers_decided names k }

tested_at : (stage : Stage) (line : List ℕ) → StageFits stage → Tested (step stage line) (HasKind stage line)
unfolding step
tested_at Opening line fits = record { tests = opening_tests line; is = opening_least line; decides = opening_decided line }
tested_at (Limiting v) line fits = record {
  tests = form_tests (limit_form line) (limit_tests v);
  is = limit_least v line;
  decides = formed (limit_form line) (IsLimitLine line) (LimitHas v) (limit_tests v) (limit_reads line) (limit_kinds v line);
}
tested_at (Naming b) line fits = record {
  tests = form_tests (workers_form line) workers_tests;
  is = naming_least b line;
  decides = formed (workers_form line) (IsWorkersLine line) WorkersHave workers_tests (workers_reads line) (workers_kinds line);
}
tested_at (Reading s) line fits = record {
  tests = form_tests (reading_form s line) (reading_tests s);
  is = read_fault (script_step s line) ∙ reading_least s line fits.0;
  decides = λ j. either_line s line (form_tests (reading_form s line) (reading_tests s) j) j
      (formed (reading_form s line) (IsForm s line) (FormHas s) (reading_tests s) (reading_reads s line fits.0) (reading_decided s line fits.1) j);
}

stage_fits : (before : List (List ℕ)) (stage : Stage) → Leads Opening before stage → StageFits stage
stage_fits before Opening leads = tt
stage_fits before (Limiting v) leads = tt
stage_fits before (Naming b) leads = tt
stage_fits before (Reading s) leads = (leads_keeps Opening before (Reading s) tt leads, lines_outlined before s leads)

pub least_is_told : LeastKindWins
least_is_told before stage line kind leads = told_so (step stage line) (HasKind stage line) (tested_at stage line (stage_fits before stage leads)) kind

pub faultless_taken : FaultlessLinesAreAccepted
faultless_taken before stage line leads = taken_so (step stage line) (HasKind stage line) (tested_at stage line (stage_fits before stage leads))
