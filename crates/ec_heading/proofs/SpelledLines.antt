-- What is read is an encoding: the line of the workers, and that of a declaration.
use Rattle.std.proofs.Common.{◌≡◌, ℕ, ◌≤◌, List, [], ◌∷◌, ◌++◌, length, Bool, true, false, eqb, cond, Option, Some, None, unwrap_or, Result, Ok, Err, refl, sym, ap, ap₂, ◌∙◌, arith, append_assoc, codes, decimal, bytes_eq, ne_eqb, if◌then◌else◌}
use Rattle.std.specs.List.{join_with_byte}
use Rattle.std.proofs.lemmas.Bool.{true≢false, eqb-false, cond-false}
use Rattle.ec_text.specs.Words.{words_of, number_in_word}
use Rattle.ec_text.proofs.shared.WordLemmas.{split_join}
use Rattle.ec_text.proofs.shared.NumberLemmas.{number_takes}
use Rattle.ec_heading.specs.DeclKinds.{sort_word, has_number, opener, second_opener, needs_second}
use Rattle.ec_heading.specs.declared.version.Version.{Version}
use Rattle.ec_heading.specs.HeadingModel.{HeadingModel}
use Rattle.ec_heading.specs.HeaderTree.{Declaration, AreWorkers, IsDeclarable, empty_heading, with_declaration, with_declarations}
use Rattle.ec_heading.specs.Spelling.{list_words, name_words, number_words, second_words, declaration_words}
use Rattle.ec_heading.specs.Form.{Phrase, parts_in}
use Rattle.ec_heading.specs.Kinds.{declaration_of, declaration_fault, size_in, second_list, workers_fault, is_bad_number}
use Rattle.ec_heading.specs.Lists.{ids_in, has_unknown}
use Rattle.ec_heading.specs.Heading.{head_step, words_step, is_no_line, fault_or, opened_by, declared_or, workers_in}
use Rattle.ec_heading.specs.HeadingLaws.{Declares, ReadWorkersAreSpelled, ReadDeclarationIsSpelled}
use Rattle.ec_heading.specs.declared.decl_kind.DeclKind.{DeclKind}
use Rattle.ec_heading.specs.declared.heading.HeadFault.{HeadFault}
use Rattle.ec_heading.specs.declared.heading.HeadFault.TheVariants as faults
use Rattle.ec_heading.specs.Phrased.{IsSpelled, NumberFits, SecondFits, number_part, second_part}
use Rattle.ec_heading.proofs.shared.Phrases.{same_word, parts_spelled}
use Rattle.ec_heading.proofs.shared.Listed.{Named, ids_spelled, ids_some}
use Rattle.ec_heading.proofs.shared.Declarable.{Heads, IsClean, clean, heads_all, heads_opened, may_declare}
use Rattle.ec_heading.proofs.WorkersLine.{are_workers}

-- A LINE THAT IS ADDED

accepted : (b : Bool) (r : Result HeadingModel HeadFault) (after : HeadingModel) → cond b (Err faults.BadLine) r ≡ Ok after → r ≡ Ok after
accepted true r after e = cc
accepted false r after e = e

pub taken_by_words : (h : HeadingModel) (line : List ℕ) (after : HeadingModel) → head_step h line ≡ Ok after → words_step h (words_of line) ≡ Ok after
unfolding head_step
taken_by_words h line after e = accepted (is_no_line line) (words_step h (words_of line)) after e

not_refused : (o : Option HeadFault) (h after : HeadingModel) → fault_or o h ≡ Ok after → (o ≡ None) × (after ≡ h)
not_refused None h after e = (refl, cc)
not_refused (Some fault) h after e = cc

-- THE WORKERS

workers_taken : (version : Version) (limit : ℕ) (words : List (List ℕ)) (after : HeadingModel) → opened_by version limit (workers_in words) ≡ Ok after → (ws : List (List ℕ)) × AreWorkers ws × (words ≡ codes "workers" ∷ ws) × (after ≡ empty_heading version limit ws)
workers_taken version limit [] after e = (cc)
workers_taken version limit (w ∷ []) after e = (cc)
workers_taken version limit (w ∷ v ∷ vs) after e =
    let Q : Type 0 = (ws : List (List ℕ)) × AreWorkers ws × (w ∷ v ∷ vs ≡ codes "workers" ∷ ws) × (after ≡ empty_heading version limit ws) in
    let P : Bool → Type 0 = λ b. bytes_eq w (codes "workers") ≡ b → opened_by version limit (cond b (Some (v ∷ vs)) None) ≡ Ok after → Q in
    let go : P (bytes_eq w (codes "workers")) = elim (bytes_eq w (codes "workers")) as P [
      | true ↦ λ q f.
          let n = not_refused (workers_fault (v ∷ vs)) (empty_heading version limit (v ∷ vs)) after f in
          (v ∷ vs, are_workers (v ∷ vs) (v, vs, refl) n.0, ap (λ (u : List ℕ). u ∷ v ∷ vs) (same_word w (codes "workers") q), n.1)
      | false ↦ λ q f. (cc)
    ] in
    go refl e

pub workers_spelled : ReadWorkersAreSpelled
workers_spelled version limit line after e =
    let t = workers_taken version limit (words_of line) after (taken_by_words (empty_heading version limit []) line after e) in
    record { workers = t.0; are = t.1; spelled = sym (split_join line) ∙ ap (join_with_byte 32) t.2; opens = t.3 }

-- A DECLARATION

-- a number in range is written as its word
good_spelled : (s : DeclKind) (word : List ℕ) (o : Option ℕ) → number_in_word word ≡ o → has_number s ≡ true → is_bad_number s o ≡ false → decimal (unwrap_or o 0) ≡ word
good_spelled s word None is has good = absurd (true≢false (sym has ∙ good))
good_spelled s word (Some n) is has good = sym (number_takes word n is).0

number_spelled : (s : DeclKind) (word : List ℕ) → NumberFits s word → is_bad_number s (number_in_word word) ≡ false → number_words s (unwrap_or (number_in_word word) 0) ≡ number_part s word
number_spelled s word fits good = elim (has_number s) as (λ b. has_number s ≡ b → (if b then decimal (unwrap_or (number_in_word word) 0) ∷ [] else []) ≡ (if b then word ∷ [] else [])) [
  | true ↦ λ q. ap (λ (w : List ℕ). w ∷ []) (good_spelled s word (number_in_word word) refl q good)
  | false ↦ λ q. refl
] refl

second_listed : (ws : List (List ℕ)) (stop : List ℕ) (ids : List ℕ) → eqb (length ids) 0 ≡ false → second_words ws (Some stop) ids ≡ stop ∷ list_words ws ids
second_listed ws stop [] some = absurd (eqb-false 0 0 some refl)
second_listed ws stop (i ∷ ids) some = refl

module _ (ws : List (List ℕ)) (h : HeadingModel) (heads : Heads ws h) where
  listed : (vs : List (List ℕ)) → has_unknown h.words vs ≡ false → list_words ws (ids_in h.words vs) ≡ vs
  listed vs known =
      ap (λ (names : Named). list_words ws (ids_in names vs)) heads.words
      ∙ ids_spelled ws heads.others vs heads.none (ap (λ (names : Named). has_unknown names vs) (sym heads.words) ∙ known)

  second_spelled : (needs : Bool) (o : Option (List ℕ)) (q : Option (List (List ℕ))) → SecondFits needs o q → has_unknown h.words (unwrap_or q []) ≡ false → second_words ws o (ids_in h.words (unwrap_or q [])) ≡ second_part o q
  second_spelled needs None None fits known = refl
  second_spelled needs None (Some vs) fits known = absurd fits
  second_spelled needs (Some stop) None fits known = refl
  second_spelled needs (Some stop) (Some vs) (v, us, is) known =
      let known_too : has_unknown h.words (v ∷ us) ≡ false = ap (has_unknown h.words) (sym is) ∙ known in
      let some : eqb (length (ids_in h.words vs)) 0 ≡ false = ap (λ (xs : List (List ℕ)). eqb (length (ids_in h.words xs)) 0) is ∙ ids_some h.words v us known_too in
      second_listed ws stop (ids_in h.words vs) some ∙ ap (λ (xs : List (List ℕ)). stop ∷ xs) (listed vs known)

  words_spelled : (words : List (List ℕ)) (p : Phrase) → IsSpelled words p → declaration_fault h.setup h.words p ≡ None → words ≡ declaration_words ws (declaration_of h.words p)
  words_spelled words p is none =
      let d : Declaration = declaration_of h.words p in
      let c : IsClean h.setup h.words p (declaration_of h.words p) = clean h.setup h.words p (declaration_of h.words p) none in
      let number : number_words p.sort (size_in p) ≡ number_part p.sort p.number = number_spelled p.sort p.number is.number c.number in
      let first : list_words ws (ids_in h.words p.first) ≡ p.first = listed p.first c.known_first in
      let second : second_words ws (second_opener p.sort) (ids_in h.words (second_list p)) ≡ second_part (second_opener p.sort) p.second = second_spelled (needs_second p.sort) (second_opener p.sort) p.second is.second c.known_second in
      is.words
      ∙ sym (append_assoc (sort_word p.sort ∷ name_words p.sort p.name ++ number_words p.sort (size_in p)) (opener p.sort ∷ list_words ws (ids_in h.words p.first)) (second_words ws (second_opener p.sort) (ids_in h.words (second_list p)))
      ∙ append_assoc (sort_word p.sort ∷ name_words p.sort p.name) (number_words p.sort (size_in p)) (opener p.sort ∷ (list_words ws (ids_in h.words p.first) ++ second_words ws (second_opener p.sort) (ids_in h.words (second_list p))))
      ∙ ap₂ (λ (m v : List (List ℕ)). sort_word p.sort ∷ (name_words p.sort p.name ++ (m ++ opener p.sort ∷ v))) number (ap₂ ◌++◌ first second))

  declared : (words : List (List ℕ)) (after : HeadingModel) (o : Option Phrase) → parts_in words ≡ o → declared_or h o ≡ Ok after → (d : Declaration) × IsDeclarable h d × (words ≡ declaration_words ws d) × (after ≡ with_declaration h d)
  declared words after None is e = (cc)
  declared words after (Some p) is e =
      let n = not_refused (declaration_fault h.setup h.words p) (with_declaration h (declaration_of h.words p)) after e in
      let s : IsSpelled words p = parts_spelled words p is in
      (declaration_of h.words p, may_declare ws h words p heads s n.0, words_spelled words p s n.0, n.1)

  pub line_spelled : (line : List ℕ) (after : HeadingModel) → 1 ≤ length ws → head_step h line ≡ Ok after → Declares ws h line after
  line_spelled line after some e =
      let workers : eqb h.setup.workers 0 ≡ false = ne_eqb _ _ (λ q. (omega (arith, q, heads.count, some))) in
      let f : declared_or h (parts_in (words_of line)) ≡ Ok after = sym (cond-false _ _ _ workers) ∙ taken_by_words h line after e in
      let t = declared (words_of line) after (parts_in (words_of line)) refl f in
      record { declaration = t.0; may = t.1; spelled = sym (split_join line) ∙ ap (join_with_byte 32) t.2; adds = t.3 }

pub declaration_spelled : ReadDeclarationIsSpelled
declaration_spelled version limit ws before line after are e =
    line_spelled ws (with_declarations (empty_heading version limit ws) before) (heads_all ws (empty_heading version limit ws) before (heads_opened version limit ws)) line after are.some e
