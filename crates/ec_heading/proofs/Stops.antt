-- The lists before and after a word.
use Rattle.std.proofs.Common.{◌≡◌, ℕ, ◌+◌, ◌-◌, ◌<◌, List, [], ◌∷◌, ◌++◌, length, take, drop, Bool, true, false, Option, Some, None, zero, suc, refl, sym, ap, ◌∙◌, arith, bytes_eq, take_all, zero-add, unwrap_or, if◌then◌else◌, get_or, add-one, drop-cons, MatchOption, IfSome, IfNone}
use Rattle.std.proofs.lemmas.List.{length-append, length-drop}
use Rattle.std.proofs.lemmas.Slice.Eq.{bytes_eq-Decides}
use Rattle.std.proofs.lemmas.Option.{none-some}
use Rattle.std.proofs.Math.Seq.{take-append-add, drop-append-add, take-append_seam, drop-append_seam, drop-length}
use Rattle.std.specs.Borrow.{Bor}
use Rattle.ec_text.specs.Words.{words_of, IsWord}
use Rattle.ec_text.proofs.shared.WordLemmas.{has_first, words_at, words_alone}
use Rattle.ec_heading.specs.DeclKinds.{sort_word, sort_of, has_name, opener, second_opener, needs_second}
use Rattle.ec_heading.specs.Form.{TwoLists, split_words, StopsAt, front_words, behind_words, on_first, is_well, well_or, both_lists, phrase_of, listed_in, opened_in, called_in, numbered_in, sorted_in}
use Rattle.ec_heading.specs.declared.decl_kind.DeclKind.{DeclKind}
use Rattle.ec_heading.specs.declared.decl_kind.DeclKind.TheVariants as sorts

split_here : (stop w : List ℕ) (ws : List (List ℕ)) → bytes_eq w stop ≡ true → split_words stop (w ∷ ws) ≡ ([], Some ws)
unfolding split_words
split_here stop w ws same = rw same refl

split_on : (stop w : List ℕ) (ws : List (List ℕ)) → bytes_eq w stop ≡ false → split_words stop (w ∷ ws) ≡ on_first w (split_words stop ws)
unfolding split_words
split_on stop w ws other = rw other refl

split_none : (stop : List ℕ) → split_words stop [] ≡ ([], None)
unfolding split_words
split_none stop = refl

-- the one word is the word
stops_at_end : (stop list w : List ℕ) → list ≡ w → words_of list ≡ w ∷ [] → bytes_eq w stop ≡ true → StopsAt stop list 0
stops_at_end stop list w is words same =
    let e : w ≡ stop = (bytes_eq-Decides w stop).0 same in
    let whole : stop ≡ list = sym e ∙ sym is in
    record {
      within = omega (arith, ap length whole);
      splits = ap (split_words stop) words ∙ split_here stop w [] same
          ∙ ap (λ xs. ([], Some (behind_words xs))) (sym (ap (λ n. drop n list) (zero-add (length stop) ∙ ap length whole) ∙ drop-length list));
    }

pub goes_to_end : (stop list w : List ℕ) → words_of list ≡ w ∷ [] → bytes_eq w stop ≡ false → split_words stop (words_of list) ≡ (words_of list, None)
goes_to_end stop list w words other = rw words (split_on stop w [] other ∙ ap (on_first w) (split_none stop))

stops_here : (stop list w rest : List ℕ) → list ≡ w ++ 32 ∷ rest → IsWord w → bytes_eq w stop ≡ true → StopsAt stop list 0
stops_here stop list w rest is word same =
    let e : w ≡ stop = (bytes_eq-Decides w stop).0 same in
    record {
      within = omega (arith, ap length e, ap length is, length-append w (32 ∷ rest));
      splits = ap (λ xs. split_words stop (words_of xs)) is ∙ ap (split_words stop) (words_at w rest word) ∙ split_here stop w (words_of rest) same
          ∙ ap (λ xs. ([], Some (behind_words xs))) (sym (ap (λ xs. drop (0 + length stop) xs) is ∙ ap (λ n. drop n (w ++ 32 ∷ rest)) (zero-add (length stop) ∙ ap length (sym e)) ∙ drop-append_seam w (32 ∷ rest)));
    }

-- the first word is the word, whether others follow or not
pub stops_first : (stop list w : List ℕ) (rest : Option (Bor (List ℕ))) → MatchOption rest (words_of list ≡ w ∷ []) (λ r. words_of list ≡ w ∷ words_of r.now) → IfSome rest (λ r. list ≡ w ++ 32 ∷ r.now) → IfNone rest (list ≡ w) → IsWord w → bytes_eq w stop ≡ true → StopsAt stop list 0
stops_first stop list w None words whole only word same = stops_at_end stop list w only words same
stops_first stop list w (Some r) words whole only word same = stops_here stop list w r.now whole word same

pub goes_on : (stop list w rest : List ℕ) → words_of list ≡ w ∷ words_of rest → bytes_eq w stop ≡ false → split_words stop (words_of rest) ≡ (words_of rest, None) → split_words stop (words_of list) ≡ (words_of list, None)
goes_on stop list w rest words other none = rw words (split_on stop w (words_of rest) other ∙ ap (on_first w) none)

later_front : (w rest : List ℕ) (at : ℕ) → IsWord w → w ∷ front_words at rest ≡ front_words (length w + 1 + at) (w ++ 32 ∷ rest)
later_front w rest zero word =
    let n : length w + 1 + 0 ≡ suc (length w) = omega arith in
    sym (ap (λ k. front_words k (w ++ 32 ∷ rest)) n ∙ ap words_of (take-append_seam w (32 ∷ rest)) ∙ words_alone w word)
later_front w rest (suc k) word =
    let n : length w + 1 + suc k ≡ suc (length w + suc k) = omega arith in
    sym (ap (λ k. front_words k (w ++ 32 ∷ rest)) n ∙ ap words_of (take-append-add w (32 ∷ rest) (suc k)) ∙ words_at w (take k rest) word)

later_behind : (w rest : List ℕ) (at n : ℕ) → drop (length w + 1 + at + n) (w ++ 32 ∷ rest) ≡ drop (at + n) rest
later_behind w rest at n =
    let e : length w + 1 + at + n ≡ length w + suc (at + n) = omega arith in
    ap (λ k. drop k (w ++ 32 ∷ rest)) e ∙ drop-append-add w (32 ∷ rest) (suc (at + n))

pub stops_later : (stop list w rest : List ℕ) (at : ℕ) → list ≡ w ++ 32 ∷ rest → IsWord w → bytes_eq w stop ≡ false → StopsAt stop rest at → StopsAt stop list (length w + 1 + at)
stops_later stop list w rest at is word other stops = record {
  within = omega (arith, stops.within, ap length is, length-append w (32 ∷ rest));
  splits = ap (λ xs. split_words stop (words_of xs)) is ∙ ap (split_words stop) (words_at w rest word) ∙ split_on stop w (words_of rest) other
      ∙ ap (on_first w) stops.splits
      ∙ ap (λ xs. (xs, Some (behind_words (drop (at + length stop) rest)))) (later_front w rest at word ∙ ap (front_words (length w + 1 + at)) (sym is))
      ∙ ap (λ xs. (front_words (length w + 1 + at) list, Some (behind_words xs))) (sym (ap (λ xs. drop (length w + 1 + at + length stop) xs) is ∙ later_behind w rest at (length stop)));
}

is_well_some : (needs : Bool) (a b : List ℕ) → is_well needs (words_of a, Some (words_of b)) ≡ true
is_well_some needs a b =
    let f = has_first a in
    let g = has_first b in
    ap (λ ws. is_well needs (ws, Some (words_of b))) f.is ∙ ap (λ ws. is_well needs (f.first ∷ f.others, Some ws)) g.is

is_well_none : (a : List ℕ) → is_well false (words_of a, None) ≡ true
is_well_none a = let f = has_first a in ap (λ ws. is_well false (ws, None)) f.is

well : (needs : Bool) (p q : List (List ℕ) × Option (List (List ℕ))) → q ≡ p → is_well needs p ≡ true → Some p ≡ well_or needs q
well needs p q is true_is = sym (ap (well_or needs) is ∙ ap (λ b. if b then Some p else None) true_is)

fronts : (at : ℕ) (list : List ℕ) → 0 < at → front_words at list ≡ words_of (take (at - 1) list)
fronts zero list some = absurd (omega arith)
fronts (suc k) list some = let e : suc k - 1 ≡ k = omega arith in ap (λ n. words_of (take n list)) (sym e)

behinds : (n : ℕ) (list : List ℕ) → n < length list → behind_words (drop n list) ≡ words_of (take (length list - (n + 1)) (drop (n + 1) list))
behinds n list within =
    let e : drop n list ≡ get_or list n 0 ∷ drop (n + 1) list = rw (add-one, drop-cons list n 0) refl in
    ap behind_words e ∙ ap words_of (sym (take_all (length list - (n + 1)) (drop (n + 1) list) (omega (arith, length-drop (n + 1) list))))

pub well_parts : (needs : Bool) (stop list : List ℕ) (at : ℕ) → StopsAt stop list at → 0 < at → at + length stop < length list
    → Some (words_of (take (at - 1) list), Some (words_of (take (length list - (at + length stop + 1)) (drop (at + length stop + 1) list)))) ≡ well_or needs (split_words stop (words_of list))
well_parts needs stop list at stops some within = well needs _ _
    (stops.splits ∙ ap (λ ws. (ws, Some (behind_words (drop (at + length stop) list)))) (fronts at list some) ∙ ap (λ ws. (words_of (take (at - 1) list), Some ws)) (behinds (at + length stop) list within))
    (is_well_some needs (take (at - 1) list) (take (length list - (at + length stop + 1)) (drop (at + length stop + 1) list)))

pub well_alone : (needs : Bool) (list : List ℕ) → needs ≡ false → Some (words_of list, None) ≡ well_or needs (words_of list, None)
well_alone needs list is_no_need = well needs (words_of list, None) _ refl (ap (λ b. is_well b (words_of list, None)) is_no_need ∙ is_well_none list)

both_none : (o : Option (List ℕ)) → both_lists o [] ≡ ([], None)
both_none None = refl
both_none (Some stop) = split_none stop

pub listed_none : (s : DeclKind) (name number : List ℕ) → listed_in s name number [] ≡ None
listed_none s name number = ap (λ (l : TwoLists). phrase_of s name number (well_or (needs_second s) l)) (both_none (second_opener s))

pub sorted_none : (o : Option DeclKind) → sorted_in o [] ≡ None
sorted_none None = refl
sorted_none (Some s) = elim (has_name s) as (λ b. (if b then called_in s [] else numbered_in s (sort_word s) []) ≡ None) [ true ↦ refl | false ↦ refl ]

pub opened_one : (s : DeclKind) (name number word : List ℕ)
    → opened_in s name number (word ∷ []) ≡ None
opened_one s name number word = elim (bytes_eq word (opener s)) as (λ b. (if b then listed_in s name number [] else None) ≡ None) [ true ↦ listed_none s name number | false ↦ refl ]

-- the word is that of this kind, or of one later in the table
this_or_later : (w : List ℕ) (t s : DeclKind) (o : Option DeclKind) → (if bytes_eq w (sort_word t) then Some t else o) ≡ Some s → (o ≡ Some s → sort_word s ≡ w) → sort_word s ≡ w
this_or_later w t s o is later =
    elim (bytes_eq w (sort_word t)) as (λ b. bytes_eq w (sort_word t) ≡ b → (if b then Some t else o) ≡ Some s → sort_word s ≡ w)
    [ true ↦ (λ same e. ap sort_word (sym (ap (λ (o : Option DeclKind). unwrap_or o t) e)) ∙ sym ((bytes_eq-Decides w (sort_word t)).0 same)) | false ↦ (λ _ e. later e) ]
    refl is

-- a word that opens a kind of declaration is the word of that kind
pub word_of_sort : (w : List ℕ) (s : DeclKind) → sort_of w ≡ Some s → sort_word s ≡ w
word_of_sort w s is =
    this_or_later w sorts.EventCount s _ is (λ e.
    this_or_later w sorts.Sequencer s _ e (λ e.
    this_or_later w sorts.Cells s _ e (λ e.
    this_or_later w sorts.Buffer s _ e (λ e.
    this_or_later w sorts.Database s _ e (λ e.
    this_or_later w sorts.Semaphore s _ e (λ e.
    this_or_later w sorts.Both s _ e (λ e. absurd (none-some s e))))))))
