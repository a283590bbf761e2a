-- Between the words of a line and its parts.
use Rattle.std.proofs.Common.{◌≡◌, ℕ, List, [], ◌∷◌, ◌++◌, Bool, true, false, not, cond, Option, Some, None, refl, sym, ap, subst, ◌∙◌, ◌⊎◌, inl, inr, bytes_eq, if◌then◌else◌, append-nil, codes}
use Rattle.std.proofs.lemmas.Slice.Eq.{bytes_eq-Decides}
use Rattle.std.proofs.lemmas.Bool.{true≢false, not-true}
use Rattle.ec_text.specs.Words.{is_number_form}
use Rattle.ec_heading.specs.DeclKinds.{sort_of, sort_word, has_name, has_number, opener, second_opener, needs_second}
use Rattle.ec_heading.specs.Spelling.{name_words}
use Rattle.ec_heading.specs.Form.{Phrase, TwoLists, split_words, on_first, both_lists, is_well, well_or, phrase_of, listed_in, opened_in, numbered_in, called_in, named_in, sorted_in, parts_in}
use Rattle.ec_heading.specs.Phrased.{HasWords, NameFits, number_part, NumberFits, second_part, SecondFits, behind_name, HasNoStop, IsSpelled}
use Rattle.ec_heading.specs.declared.decl_kind.DeclKind.{DeclKind}
use Rattle.ec_heading.specs.declared.decl_kind.DeclKind.TheVariants as sorts
use Rattle.ec_text.proofs.shared.NumberLemmas.{guarded}

-- SMALL STEPS

-- words of equal bytes are the same
pub same_word : (v w : List ℕ) → bytes_eq v w ≡ true → v ≡ w
same_word v w e = (bytes_eq-Decides v w).0 e

-- a word has the same bytes as itself
pub is_itself : (w : List ℕ) → bytes_eq w w ≡ true
is_itself w = (bytes_eq-Decides w w).1 refl

either : {X : Type 0} (b : Bool) (x y : X) (r : Option X) → cond b (Some x) r ≡ Some y → ((b ≡ true) × (x ≡ y)) ⊎ (r ≡ Some y)
either true x y r e = inl (refl, cc)
either false x y r e = inr e

-- THE TWO LISTS

-- the two lists, concatenated, are the words that they were cut from
split_joins : (stop : List ℕ) (ws : List (List ℕ)) → (split_words stop ws).0 ++ second_part (Some stop) (split_words stop ws).1 ≡ ws
unfolding split_words
split_joins stop [] = refl
split_joins stop (w ∷ ws) =
    let P : Bool → Type 0 = λ b. bytes_eq w stop ≡ b → (cond b ([], Some ws) (on_first w (split_words stop ws))).0 ++ second_part (Some stop) (cond b ([], Some ws) (on_first w (split_words stop ws))).1 ≡ w ∷ ws in
    let go : P (bytes_eq w stop) = elim (bytes_eq w stop) as P [
      | true ↦ λ e. ap (λ (v : List ℕ). v ∷ ws) (sym (same_word w stop e))
      | false ↦ λ e. ap (λ (vs : List (List ℕ)). w ∷ vs) (split_joins stop ws)
    ] in
    go refl

lists_join : (o : Option (List ℕ)) (ws : List (List ℕ)) → (both_lists o ws).0 ++ second_part o (both_lists o ws).1 ≡ ws
lists_join None ws = append-nil ws
lists_join (Some stop) ws = split_joins stop ws

-- well-formed lists have words
well_first : (needs : Bool) (p : TwoLists) → is_well needs p ≡ true → HasWords p.0
well_first needs ([], o) e = absurd (true≢false (sym e))
well_first needs (w ∷ ws, o) e = (w, ws, refl)

well_second : (needs : Bool) (o : Option (List ℕ)) (ws : List (List ℕ)) (q : Option (List (List ℕ))) → (both_lists o ws).1 ≡ q → is_well needs ((both_lists o ws).0, q) ≡ true → SecondFits needs o q
well_second needs o ws q is e = fits o (both_lists o ws).0 q (λ (n : o ≡ None). sym is ∙ ap (λ (p : Option (List ℕ)). (both_lists p ws).1) n) e
  where
    fits : (o : Option (List ℕ)) (vs : List (List ℕ)) (q : Option (List (List ℕ))) → (o ≡ None → q ≡ None) → is_well needs (vs, q) ≡ true → SecondFits needs o q
    fits o [] q n e = absurd (true≢false (sym e))
    fits o (v ∷ vs) None n e = not-true needs e
    fits None (v ∷ vs) (Some us) n e = (let h : Some us ≡ None = n refl in cc)
    fits (Some stop) (v ∷ vs) (Some []) n e = absurd (true≢false (sym e))
    fits (Some stop) (v ∷ vs) (Some (u ∷ us)) n e = (u, us, refl)

-- no word of the first list is the one that ends it
words_stop : (stop : List ℕ) (ws : List (List ℕ)) → HasNoStop (Some stop) (split_words stop ws).0
unfolding split_words
words_stop stop [] = tt
words_stop stop (w ∷ ws) =
    (elim (bytes_eq w stop) as (λ b. bytes_eq w stop ≡ b → HasNoStop (Some stop) (cond b ([], Some ws) (on_first w (split_words stop ws))).0) [
      | true ↦ λ e. tt
      | false ↦ λ e. (e, words_stop stop ws)
    ]) refl

lists_stop : (o : Option (List ℕ)) (ws : List (List ℕ)) → HasNoStop o (both_lists o ws).0
lists_stop None ws = tt
lists_stop (Some stop) ws = words_stop stop ws

-- WHAT IS READ IS AN ENCODING

sort_is : (w : List ℕ) (s : DeclKind) → sort_of w ≡ Some s → w ≡ sort_word s
sort_is w s e = elim (either (bytes_eq w (codes "eventcount")) sorts.EventCount s _ e) [
  | inl a ↦ same_word w _ a.0 ∙ ap sort_word a.1
  | inr e1 ↦ elim (either (bytes_eq w (codes "sequencer")) sorts.Sequencer s _ e1) [
    | inl a ↦ same_word w _ a.0 ∙ ap sort_word a.1
    | inr e2 ↦ elim (either (bytes_eq w (codes "cells")) sorts.Cells s _ e2) [
      | inl a ↦ same_word w _ a.0 ∙ ap sort_word a.1
      | inr e3 ↦ elim (either (bytes_eq w (codes "buffer")) sorts.Buffer s _ e3) [
        | inl a ↦ same_word w _ a.0 ∙ ap sort_word a.1
        | inr e4 ↦ elim (either (bytes_eq w (codes "database")) sorts.Database s _ e4) [
          | inl a ↦ same_word w _ a.0 ∙ ap sort_word a.1
          | inr e5 ↦ elim (either (bytes_eq w (codes "semaphore")) sorts.Semaphore s _ e5) [
            | inl a ↦ same_word w _ a.0 ∙ ap sort_word a.1
            | inr e6 ↦
                let g = guarded (bytes_eq w (codes "both")) (Some sorts.Both) s e6 in
                let t : sorts.Both ≡ s = cc in
                same_word w _ g.0 ∙ ap sort_word t
          ]
        ]
      ]
    ]
  ]
]

-- the words of a kind and a name, and then others
abbrev headed : DeclKind → List ℕ → List (List ℕ) → List (List ℕ)
headed s name ws = sort_word s ∷ (name_words s name ++ ws)

listed : (s : DeclKind) (name number : List ℕ) (ws : List (List ℕ)) (p : Phrase) → NameFits s name → NumberFits s number → listed_in s name number ws ≡ Some p → IsSpelled (headed s name (behind_name s number ws)) p
listed s name number ws p called fits e =
    let P : Bool → Type 0 = λ b. is_well (needs_second s) (both_lists (second_opener s) ws) ≡ b → phrase_of s name number (cond b (Some (both_lists (second_opener s) ws)) None) ≡ Some p → IsSpelled (headed s name (behind_name s number ws)) p in
    let go : P (is_well (needs_second s) (both_lists (second_opener s) ws)) = elim (is_well (needs_second s) (both_lists (second_opener s) ws)) as P [
      | true ↦ λ w f.
          let q : Phrase = record { sort = s; name = name; number = number; first = (both_lists (second_opener s) ws).0; second = (both_lists (second_opener s) ws).1 } in
          let same : q ≡ p = cc in
          let is : IsSpelled (headed s name (behind_name s number ws)) q = record {
            words = ap (λ (vs : List (List ℕ)). headed s name (behind_name s number vs)) (sym (lists_join (second_opener s) ws));
            name = called;
            number = fits;
            first = well_first (needs_second s) (both_lists (second_opener s) ws) w;
            second = well_second (needs_second s) (second_opener s) ws (both_lists (second_opener s) ws).1 refl w;
            apart = lists_stop (second_opener s) ws;
          } in
          subst (IsSpelled (headed s name (behind_name s number ws))) same is
      | false ↦ λ w f. (cc)
    ] in
    go refl e

opened : (s : DeclKind) (name number : List ℕ) (ws : List (List ℕ)) (p : Phrase) → NameFits s name → NumberFits s number → opened_in s name number ws ≡ Some p → IsSpelled (headed s name (number_part s number ++ ws)) p
opened s name number [] p called fits e = (cc)
opened s name number (w ∷ ws) p called fits e =
    let g = guarded (bytes_eq w (opener s)) (listed_in s name number ws) p e in
    let same : w ≡ opener s = same_word w (opener s) g.0 in
    subst (λ (v : List ℕ). IsSpelled (headed s name (number_part s number ++ v ∷ ws)) p) (sym same) (listed s name number ws p called fits g.1)

part_if : (b : Bool) (number : List ℕ) (s : DeclKind) → has_number s ≡ b → number_part s number ≡ (if b then number ∷ [] else [])
part_if b number s e = ap (λ (c : Bool). if c then number ∷ [] else []) e

numbered : (s : DeclKind) (name : List ℕ) (ws : List (List ℕ)) (p : Phrase) → NameFits s name → numbered_in s name ws ≡ Some p → IsSpelled (headed s name ws) p
numbered s name [] p called e = (cc)
numbered s name (w ∷ ws) p called e =
    let P : Bool → Type 0 = λ b. has_number s ≡ b → cond b (cond (is_number_form w) (opened_in s name w ws) None) (opened_in s name [] (w ∷ ws)) ≡ Some p → IsSpelled (headed s name (w ∷ ws)) p in
    let go : P (has_number s) = elim (has_number s) as P [
      | true ↦ λ q f.
          let g = guarded (is_number_form w) (opened_in s name w ws) p f in
          let fits : NumberFits s w = record { none = λ n. absurd (true≢false (sym q ∙ n)); some = λ n. g.0 } in
          subst (λ (ns : List (List ℕ)). IsSpelled (headed s name (ns ++ ws)) p) (part_if true w s q) (opened s name w ws p called fits g.1)
      | false ↦ λ q f.
          let fits : NumberFits s [] = record { none = λ n. refl; some = λ n. absurd (true≢false (sym n ∙ q)) } in
          subst (λ (ns : List (List ℕ)). IsSpelled (headed s name (ns ++ w ∷ ws)) p) (part_if false [] s q) (opened s name [] (w ∷ ws) p called fits f)
    ] in
    go refl e

words_if : (b : Bool) (name : List ℕ) (s : DeclKind) → has_name s ≡ b → name_words s name ≡ (if b then name ∷ [] else [])
words_if b name s e = ap (λ (c : Bool). if c then name ∷ [] else []) e

called_so : (s : DeclKind) (ws : List (List ℕ)) (p : Phrase) → has_name s ≡ true → called_in s ws ≡ Some p → IsSpelled (sort_word s ∷ ws) p
called_so s [] p has e = (cc)
called_so s (w ∷ ws) p has e =
    let called : NameFits s w = λ n. absurd (true≢false (sym has ∙ n)) in
    subst (λ (ns : List (List ℕ)). IsSpelled (sort_word s ∷ (ns ++ ws)) p) (words_if true w s has) (numbered s w ws p called e)

named : (s : DeclKind) (ws : List (List ℕ)) (p : Phrase) → named_in s ws ≡ Some p → IsSpelled (sort_word s ∷ ws) p
named s ws p e =
    let P : Bool → Type 0 = λ b. has_name s ≡ b → cond b (called_in s ws) (numbered_in s (sort_word s) ws) ≡ Some p → IsSpelled (sort_word s ∷ ws) p in
    let go : P (has_name s) = elim (has_name s) as P [
      | true ↦ λ q f. called_so s ws p q f
      | false ↦ λ q f. subst (λ (ns : List (List ℕ)). IsSpelled (sort_word s ∷ (ns ++ ws)) p) (words_if false (sort_word s) s q) (numbered s (sort_word s) ws p (λ n. refl) f)
    ] in
    go refl e

sorted : (w : List ℕ) (o : Option DeclKind) (ws : List (List ℕ)) (p : Phrase) → sort_of w ≡ o → sorted_in o ws ≡ Some p → IsSpelled (w ∷ ws) p
sorted w None ws p is e = (cc)
sorted w (Some s) ws p is e = subst (λ (v : List ℕ). IsSpelled (v ∷ ws) p) (sym (sort_is w s is)) (named s ws p e)

-- the words of a line that has parts are the encoding of those parts
pub parts_spelled : (ws : List (List ℕ)) (p : Phrase) → parts_in ws ≡ Some p → IsSpelled ws p
unfolding parts_in
parts_spelled [] p e = (cc)
parts_spelled (w ∷ ws) p e = sorted w (sort_of w) ws p refl e

-- ENCODINGS ARE READ

split_again : (stop : List ℕ) (ws : List (List ℕ)) (o : Option (List (List ℕ))) → HasNoStop (Some stop) ws → split_words stop (ws ++ second_part (Some stop) o) ≡ (ws, o)
unfolding split_words
split_again stop [] None apart = refl
split_again stop [] (Some vs) apart = rw (is_itself stop) refl
split_again stop (w ∷ ws) o apart = rw (apart.0, split_again stop ws o apart.1) refl

lists_again : (needs : Bool) (o : Option (List ℕ)) (ws : List (List ℕ)) (q : Option (List (List ℕ))) → HasNoStop o ws → SecondFits needs o q → both_lists o (ws ++ second_part o q) ≡ (ws, q)
lists_again needs None ws None apart fits = ap (λ (vs : List (List ℕ)). (vs, None)) (append-nil ws)
lists_again needs None ws (Some vs) apart fits = absurd fits
lists_again needs (Some stop) ws q apart fits = split_again stop ws q apart

well_words : (needs : Bool) (o : Option (List ℕ)) (v : List ℕ) (vs : List (List ℕ)) (q : Option (List (List ℕ))) → SecondFits needs o q → is_well needs (v ∷ vs, q) ≡ true
well_words needs o v vs None fits = ap not fits
well_words needs None v vs (Some us) fits = absurd fits
well_words needs (Some stop) v vs (Some us) (u, rest, is) = rw is refl

well_again : (needs : Bool) (o : Option (List ℕ)) (ws : List (List ℕ)) (q : Option (List (List ℕ))) → HasWords ws → SecondFits needs o q → is_well needs (ws, q) ≡ true
well_again needs o ws q (v, vs, is) fits = rw is (well_words needs o v vs q fits)

sort_again : (s : DeclKind) → sort_of (sort_word s) ≡ Some s
sort_again sorts.EventCount = refl
sort_again sorts.Sequencer = refl
sort_again sorts.Cells = refl
sort_again sorts.Buffer = refl
sort_again sorts.Database = refl
sort_again sorts.Semaphore = refl
sort_again sorts.Both = refl

listed_again : (s : DeclKind) (name number : List ℕ) (ws : List (List ℕ)) (q : Option (List (List ℕ))) → HasWords ws → HasNoStop (second_opener s) ws → SecondFits (needs_second s) (second_opener s) q
    → listed_in s name number (ws ++ second_part (second_opener s) q) ≡ Some (record { sort = s; name = name; number = number; first = ws; second = q })
listed_again s name number ws q some apart fits =
    ap (λ (l : TwoLists). phrase_of s name number (well_or (needs_second s) l)) (lists_again (needs_second s) (second_opener s) ws q apart fits)
    ∙ ap (λ (b : Bool). phrase_of s name number (if b then Some (ws, q) else None)) (well_again (needs_second s) (second_opener s) ws q some fits)

opened_again : (s : DeclKind) (name number : List ℕ) (vs : List (List ℕ)) (o : Option Phrase) → listed_in s name number vs ≡ o → opened_in s name number (opener s ∷ vs) ≡ o
opened_again s name number vs o is = rw (is_itself (opener s)) is

numbered_again : (s : DeclKind) (name number : List ℕ) (vs : List (List ℕ)) (o : Option Phrase) → NumberFits s number → listed_in s name number vs ≡ o → numbered_in s name (behind_name s number vs) ≡ o
numbered_again s name number vs o fits is =
    let P : Bool → Type 0 = λ b. has_number s ≡ b → numbered_in s name ((if b then number ∷ [] else []) ++ opener s ∷ vs) ≡ o in
    let go : P (has_number s) = elim (has_number s) as P [
      | true ↦ λ q. rw (q, fits.some q) (opened_again s name number vs o is)
      | false ↦ λ q. rw q (opened_again s name [] vs o (ap (λ (n : List ℕ). listed_in s name n vs) (sym (fits.none q)) ∙ is))
    ] in
    go refl

named_again : (s : DeclKind) (name : List ℕ) (ws : List (List ℕ)) (o : Option Phrase) → NameFits s name → numbered_in s name ws ≡ o → named_in s (name_words s name ++ ws) ≡ o
named_again s name ws o fits is =
    let P : Bool → Type 0 = λ b. has_name s ≡ b → named_in s ((if b then name ∷ [] else []) ++ ws) ≡ o in
    let go : P (has_name s) = elim (has_name s) as P [
      | true ↦ λ q. rw q is
      | false ↦ λ q. rw q (ap (λ (n : List ℕ). numbered_in s n ws) (sym (fits q)) ∙ is)
    ] in
    go refl

-- the encoding of a phrase is read as that phrase
pub spelled_parts : (ws : List (List ℕ)) (p : Phrase) → IsSpelled ws p → parts_in ws ≡ Some p
unfolding parts_in
spelled_parts ws p is =
    let lists : List (List ℕ) = p.first ++ second_part (second_opener p.sort) p.second in
    let whole : listed_in p.sort p.name p.number (p.first ++ second_part (second_opener p.sort) p.second) ≡ Some p = listed_again p.sort p.name p.number p.first p.second is.first is.apart is.second in
    ap parts_in is.words
    ∙ ap (λ (o : Option DeclKind). sorted_in o (name_words p.sort p.name ++ behind_name p.sort p.number lists)) (sort_again p.sort)
    ∙ named_again p.sort p.name (behind_name p.sort p.number lists) (Some p) is.name (numbered_again p.sort p.name p.number lists (Some p) is.number whole)
