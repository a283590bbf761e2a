-- Which kinds hold of a line after the declarations: what its tests decide.
use Rattle.std.proofs.Common.{◌≡◌, ◌≢◌, ◌⊎◌, inl, inr, ℕ, ◌+◌, ◌<◌, ◌≤◌, ◌||◌, ◌&&◌, ◌==◌, List, [], ◌∷◌, length, Bool, true, false, not, cond, Option, Some, None, option_map, is_some, is_none, refl, sym, ap, ◌∙◌, subst, arith, decimal, codes, bytes_eq, nat_le, nat_lt}
use Rattle.std.specs.Bool.{Decides}
use Rattle.std.specs.List.{Any, list_any, list_all}
use Rattle.std.specs.Option.{option_map_or, option_and_then}
use Rattle.std.proofs.lemmas.Bool.{true≢false, and_parts, and_from, false_from_ne_true, leb-true, le-leb, ne_eqb}
use Rattle.std.proofs.lemmas.Bool.Decides.{Decides-like, Decides-or, Decides-and, Decides-at, Decides-ltb, Decides-eqb}
use Rattle.std.proofs.lemmas.Option.{same_Some}
use Rattle.ec_count.specs.Tables.{first_that}
use Rattle.ec_database.specs.Shapes.{Database}
use Rattle.ec_text.specs.Words.{number_in_word}
use Rattle.ec_heading.specs.declared.group.Group.{Group}
use Rattle.ec_heading.specs.HeadingModel.{HeadingModel}
use Rattle.ec_heading.specs.Lists.{worker_in, has_unknown}
use Rattle.ec_heading.specs.HeadingInvariant.{IsHeading}
use Rattle.ec_heading.proofs.shared.Phrases.{same_word}
use Rattle.ec_script.specs.declared.fault.Kind.{Kind}
use Rattle.ec_script.specs.declared.fault.Kind.TheVariants as kinds
use Rattle.ec_script.specs.declared.kinds.BlockContext.{BlockContext}
use Rattle.ec_script.specs.declared.object.Object.{Object}
use Rattle.ec_script.specs.declared.object.Object.TheVariants.{Nothing, Worker, OfDatabase}
use Rattle.ec_script.specs.declared.script.OpenBlock.{OpenBlock}
use Rattle.ec_script.specs.declared.verb.LineWord.{LineWord}
use Rattle.ec_script.specs.declared.verb.LineWord.TheVariants as verbs
use Rattle.ec_script.specs.Forms.{Phrase, is_value_form, only_in, more_in, last_plus, number_or_more, value_of, is_tail}
use Rattle.ec_script.specs.Holding.{About, IsBegun, IsNoValue, IsBadNumber, IsTooLong, IsMisplaced, OtherHas}
use Rattle.ec_script.specs.Kinds.{is_no_value, cells_of, is_count, is_allowed, is_named_again, has_unknown_name, is_bad_tail, is_too_many, has_two_roles, has_right, lacks_right, is_badly_nested, or_nothing, phrase_tests, phrase_fault}
use Rattle.ec_script.specs.Objects.{object_for, object_in, database_in, owns, is_owned}
use Rattle.ec_script.specs.Reading.{view_of_block, context_of_script}
use Rattle.ec_script.specs.ScriptModel.{ScriptModel}
use Rattle.ec_script.specs.Verbs.{has_verb, tail_of, is_update, is_counted}
use Rattle.ec_script.proofs.Deciding.{never, decides_none, decides_not, decides_itself, decides_any, decides_member, decides_number, decides_block}
use Rattle.ec_script.proofs.HeadKinds.{unknown_decided}
use Rattle.ec_script.proofs.OrderLines.{value_back}
use Rattle.ec_script.proofs.Sayings.{value_spelled}
use Rattle.ec_script.proofs.TwoRoles.{two_roles, pair_verb, first_again}
use Rattle.ec_script.proofs.Giving.{value_ranged as value_in_range}

-- OBJECTS

-- a declared object is named, of which the test decides
decides_object : (o : Option Object) (t : Object → Bool) (T : Object → Type 0) → t Nothing ≡ false → ((x : Object) → Decides (t x) (T x)) → Decides (t (or_nothing o)) ((x : Object) × (o ≡ Some x) × T x)
decides_object None t T none each = ((λ e. absurd (true≢false (sym e ∙ none))), λ h. (let k : None ≡ Some h.0 = h.1 in cc))
decides_object (Some x) t T none each = ((λ e. (x, refl, (each x).0 e)), λ h. (each x).1 (subst T (sym (same_Some x h.0 h.1)) h.2))

begun_decided : (named : List ℕ) (o : Object) → Decides (is_named_again named o) (IsBegun named o)
begun_decided named (Worker w) = decides_member w named
begun_decided named _ = never (λ t. t)

none_owned : (gs : List Group) → is_owned gs Nothing ≡ false
none_owned [] = refl
none_owned (g ∷ gs) = none_owned gs

-- NAMES OF A SCHEDULE

schedule_decided : (h : HeadingModel) (v : LineWord) (ws : List (List ℕ)) → Decides (has_unknown_name h v ws) ((v ≡ verbs.Schedule) × Any (λ w. worker_in h.words w ≡ None) ws)
schedule_decided h verbs.Schedule ws = Decides-like (has_unknown h.words ws) (λ a. (refl, a)) (λ a. a.1) (unknown_decided h ws)
schedule_decided h _ ws = never (λ t. (let e = t.0 in cc))

-- VALUES AND COUNTS

no_value_decided : (w : List ℕ) → Decides (is_no_value w) (IsNoValue w)
no_value_decided w = (
  (λ none v on is. (let some : value_of w ≡ Some v = ap value_of is ∙ (value_spelled v on).value in true≢false (sym none ∙ ap is_none some))),
  λ off. (elim (value_of w) as (λ o. value_of w ≡ o → is_none o ≡ true) [
    | None ↦ λ e. refl
    | Some v ↦ λ e. absurd (off v (value_in_range w v e) (value_back w v e))
  ]) refl,
)

amount_decided : (ws : List (List ℕ)) → Decides (option_map_or is_no_value (only_in ws) false) ((w : List ℕ) × (ws ≡ w ∷ []) × IsNoValue w)
amount_decided [] = never (λ t. (let e = t.1 in cc))
amount_decided (w ∷ []) = ((λ e. (w, refl, (no_value_decided w).0 e)), λ t. (let same : t.0 ≡ w = cc in (no_value_decided w).1 (subst IsNoValue same t.2)))
amount_decided (w ∷ v ∷ ws) = never (λ t. (let e = t.1 in cc))

database_is : (d c : Database) → Some (OfDatabase d) ≡ Some (OfDatabase c) → d ≡ c
database_is d c is = cc

cells_decided : (m : Option Database) (ws : List (List ℕ)) → ws ≢ [] → Decides (not (length ws == cells_of (or_nothing (option_map OfDatabase m)))) ((d : Database) → option_map OfDatabase m ≡ Some (OfDatabase d) → length ws ≢ d.cells)
cells_decided None [] some = absurd (some refl)
cells_decided None (w ∷ ws) some = ((λ e d is. cc), λ t. (decides_not (length (w ∷ ws) == 0)).1 (ne_eqb (length (w ∷ ws)) 0 (λ e. omega (arith, e))))
cells_decided (Some d) ws some = (
  (λ e c is same. true≢false (sym ((Decides-eqb (length ws) d.cells).1 (same ∙ ap (λ (x : Database). x.cells) (sym (database_is d c is)))) ∙ (decides_not (length ws == d.cells)).0 e)),
  λ t. (decides_not (length ws == d.cells)).1 (false_from_ne_true _ (λ e. t d refl ((Decides-eqb (length ws) d.cells).0 e))),
)

write_decided : (m : Option Database) (ws : List (List ℕ)) → ws ≢ []
    → Decides (list_any is_no_value ws || not (length ws == cells_of (or_nothing (option_map OfDatabase m)))) (Any IsNoValue ws ⊎ ((d : Database) → option_map OfDatabase m ≡ Some (OfDatabase d) → length ws ≢ d.cells))
write_decided m ws some =
    Decides-or (list_any is_no_value ws) (not (length ws == cells_of (or_nothing (option_map OfDatabase m)))) (decides_any is_no_value IsNoValue no_value_decided ws) (cells_decided m ws some)

count_decided : (most : ℕ) (ws : List (List ℕ)) → most ≤ 1000000 → Decides (not (is_count most (option_and_then number_in_word (only_in ws)))) ((n : ℕ) → 1 ≤ n → n ≤ most → ws ≢ decimal n ∷ [])
count_decided most [] few = ((λ e n low high is. cc), λ t. refl)
count_decided most (w ∷ []) few =
    let test : ℕ → Bool = λ n. nat_le 1 n && nat_le n most in
    let small : (n : ℕ) → test n ≡ true → n < 1000000000000000000 = λ n on. (let high = leb-true n most (and_parts (nat_le 1 n) (nat_le n most) on).1 in omega (arith, high)) in
    let same : (o : Option ℕ) → not (is_count most o) ≡ not (option_map_or test o false) = λ o. (elim o as (λ x. not (is_count most x) ≡ not (option_map_or test x false)) [ None ↦ refl | Some n ↦ refl ]) in
    Decides-at (not (is_count most (number_in_word w))) (not (option_map_or test (number_in_word w) false)) (same (number_in_word w))
    (Decides-like (not (option_map_or test (number_in_word w) false))
    (λ h n low high is. (let word : w ≡ decimal n = cc in h n (and_from (nat_le 1 n) (nat_le n most) (le-leb 1 n low) (le-leb n most high)) word))
    (λ h n on is. (let p = and_parts (nat_le 1 n) (nat_le n most) on in h n (leb-true 1 n p.0) (leb-true n most p.1) (ap (λ x. x ∷ []) is)))
    (decides_number test small w))
count_decided most (w ∷ v ∷ ws) few = ((λ e n low high is. cc), λ t. refl)

some_words : (ws : List (List ℕ)) → (nat_le 1 (length ws) && list_all is_value_form ws) ≡ true → ws ≢ []
some_words [] is none = cc
some_words (w ∷ ws) is none = cc

number_decided : (h : HeadingModel) (v : LineWord) (w : List ℕ) (ws : List (List ℕ)) → is_tail (tail_of v) ws ≡ true
    → Decides (is_bad_tail (tail_of v) v ws (or_nothing (object_for h v w ws))) (IsBadNumber (tail_of v) h (record { verb = v; object = w; rest = ws }))
number_decided h verbs.Await w ws tail = amount_decided ws
number_decided h verbs.Put w ws tail = amount_decided ws
number_decided h verbs.Produce w ws tail = amount_decided ws
number_decided h verbs.Write w ws tail = write_decided (database_in h w) ws (some_words ws tail)
number_decided h verbs.Snapshot w ws tail = count_decided 1000 ws (omega arith)
number_decided h verbs.Repeat w ws tail = count_decided 1000000 ws (omega arith)
number_decided h _ w ws tail = never (λ t. t)

-- BOUNDS

one_more : (n : ℕ) → Decides (nat_le 4096 n) (4096 < n + 1)
one_more n = ((λ e. (let le = leb-true 4096 n e in omega (arith, le))), λ lt. le-leb 4096 n (omega (arith, lt)))

-- a line of a block
block_many : (v : LineWord) (n : ℕ) (o : Option OpenBlock) → Decides (option_map_or (λ (x : BlockContext). is_counted v && nat_le 4096 x.commands) (option_map view_of_block o) false) ((b : OpenBlock) × (o ≡ Some b) × ((is_counted v ≡ true) × (4096 < b.draft.commands + 1)))
block_many v n o =
    decides_block o (λ x. option_map_or (λ (y : BlockContext). is_counted v && nat_le 4096 y.commands) x false) (λ b. (is_counted v ≡ true) × (4096 < b.draft.commands + 1)) refl
    (λ b. Decides-and (is_counted v) (nat_le 4096 b.draft.commands) (decides_itself (is_counted v)) (one_more b.draft.commands))

-- the two cases of lines
other_many : (v : LineWord) (ws : List (List ℕ)) (o : Option BlockContext) (n : ℕ) → v ≢ verbs.Schedule → is_too_many v ws o n ≡ option_map_or (λ (x : BlockContext). is_counted v && nat_le 4096 x.commands) o false
other_many verbs.Schedule ws o n other = absurd (other refl)
other_many v ws None n other = refl
other_many v ws (Some x) n other = refl

inner_many : (s : ScriptModel) (v : LineWord) (w : List ℕ) (ws : List (List ℕ)) → v ≢ verbs.Schedule → Decides (is_too_many v ws (option_map view_of_block s.block) (length s.schedule)) (IsTooLong s (record { verb = v; object = w; rest = ws }))
inner_many s v w ws other =
    Decides-at (is_too_many v ws (option_map view_of_block s.block) (length s.schedule)) (option_map_or (λ (x : BlockContext). is_counted v && nat_le 4096 x.commands) (option_map view_of_block s.block) false)
    (other_many v ws (option_map view_of_block s.block) (length s.schedule) other)
    (Decides-like (option_map_or (λ (x : BlockContext). is_counted v && nat_le 4096 x.commands) (option_map view_of_block s.block) false) inr (λ h. (elim h [ inl t ↦ absurd (other t.0) | inr t ↦ t ])) (block_many v 0 s.block))

many_decided : (s : ScriptModel) (v : LineWord) (w : List ℕ) (ws : List (List ℕ)) → Decides (is_too_many v ws (option_map view_of_block s.block) (length s.schedule)) (IsTooLong s (record { verb = v; object = w; rest = ws }))
many_decided s verbs.Schedule w ws =
    Decides-like (nat_lt 65536 (length s.schedule + length ws)) (λ lt. inl (refl, lt)) (λ h. (elim h [ inl t ↦ t.1 | inr t ↦ (let none = t.2.0 in absurd (true≢false (sym none))) ])) (Decides-ltb 65536 (length s.schedule + length ws))
many_decided s v w ws = inner_many s v w ws (λ e. cc)

-- ROLES, RIGHTS AND NESTING

roles_decided : (h : HeadingModel) (p : Phrase) → IsHeading h → Decides (has_two_roles (or_nothing (object_in h p))) ((p.verb ≡ verbs.DownBoth) × (p.rest ≡ p.object ∷ []) × (object_in h p ≢ None))
roles_decided h p is = (
  (λ on.
      (let verb : p.verb ≡ verbs.DownBoth = pair_verb h p.verb p.object p.rest on in
      (elim (object_in h p) as (λ o. object_in h p ≡ o → has_two_roles (or_nothing o) ≡ true → (p.verb ≡ verbs.DownBoth) × (p.rest ≡ p.object ∷ []) × (object_in h p ≢ None)) [
        | None ↦ λ at t. cc
        | Some x ↦ λ at t.
            (let pair = two_roles h p.object p.rest x is (subst (λ v. object_for h v p.object p.rest ≡ Some x) verb at) in
            let same : p.object ≡ pair.0 = same_word p.object pair.0 (sym pair.2 ∙ t) in
            (verb, pair.1 ∙ ap (λ (w : List ℕ). w ∷ []) (sym same), (λ none. (let k : None ≡ Some x = sym none ∙ at in cc))))
      ]) refl on)),
  λ h'. (elim (object_in h p) as (λ o. object_in h p ≡ o → has_two_roles (or_nothing o) ≡ true) [
    | None ↦ λ at. absurd (h'.2 at)
    | Some x ↦ λ at.
        (let pair = two_roles h p.object p.rest x is (subst (λ v. object_for h v p.object p.rest ≡ Some x) h'.0 at) in
        pair.2 ∙ first_again p.object pair.0 (sym h'.1 ∙ pair.1))
  ]) refl,
)

right_decided : (h : HeadingModel) (v : LineWord) (o : Option Object) (w : ℕ) → Decides (not (has_right h.version h.setup w (is_update v) (or_nothing o))) ((x : Object) × (o ≡ Some x) × (has_right h.version h.setup w (is_update v) x ≡ false))
right_decided h v o w =
    decides_object o (λ x. not (has_right h.version h.setup w (is_update v) x)) (λ x. has_right h.version h.setup w (is_update v) x ≡ false) refl (λ x. decides_not (has_right h.version h.setup w (is_update v) x))

misplaced_decided : (v : LineWord) (b : OpenBlock) → Decides (is_badly_nested v (Some (view_of_block b))) (IsMisplaced b v)
misplaced_decided verbs.Worker b = ((λ e. tt), λ t. refl)
misplaced_decided verbs.Schedule b = ((λ e. tt), λ t. refl)
misplaced_decided verbs.Repeat b = (leb-true 4 b.draft.depth, le-leb 4 b.draft.depth)
misplaced_decided verbs.End b = Decides-and (nat_lt 0 b.draft.depth) b.draft.is_empty (Decides-ltb 0 b.draft.depth) (decides_itself b.draft.is_empty)
misplaced_decided _ b = never (λ t. t)

-- A LINE

abbrev pub other_tests : ScriptModel → Phrase → Kind → Bool
other_tests s p kinds.NameTaken = is_named_again s.named (or_nothing (object_in s.heading p))
other_tests s p kinds.UnknownName = is_none (object_in s.heading p) || has_unknown_name s.heading p.verb p.rest
other_tests s p kinds.BadNumber = is_bad_tail (tail_of p.verb) p.verb p.rest (or_nothing (object_in s.heading p))
other_tests s p kinds.TooMany = is_too_many p.verb p.rest (option_map view_of_block s.block) (length s.schedule)
other_tests s p kinds.Hidden = is_owned s.heading.groups (or_nothing (object_in s.heading p))
other_tests s p kinds.TwoRoles = has_two_roles (or_nothing (object_in s.heading p))
other_tests s p kinds.NoRight = lacks_right s.heading (option_map view_of_block s.block) p.verb (or_nothing (object_in s.heading p))
other_tests s p kinds.BadNesting = is_badly_nested p.verb (option_map view_of_block s.block)
other_tests s p _ = false

pub other_decided : (s : ScriptModel) (p : Phrase) (k : Kind) → IsHeading s.heading → is_tail (tail_of p.verb) p.rest ≡ true → Decides (other_tests s p k) (OtherHas s p k)
other_decided s p kinds.NameTaken is tail = decides_object (object_in s.heading p) (is_named_again s.named) (IsBegun s.named) refl (begun_decided s.named)
other_decided s p kinds.UnknownName is tail =
    Decides-or (is_none (object_in s.heading p)) (has_unknown_name s.heading p.verb p.rest) (decides_none (object_in s.heading p)) (schedule_decided s.heading p.verb p.rest)
other_decided s p kinds.BadNumber is tail = number_decided s.heading p.verb p.object p.rest tail
other_decided s p kinds.TooMany is tail = many_decided s p.verb p.object p.rest
other_decided s p kinds.Hidden is tail =
    decides_object (object_in s.heading p) (is_owned s.heading.groups) (λ o. Any (λ (g : Group). owns o g ≡ true) s.heading.groups) (none_owned s.heading.groups)
    (λ o. decides_any (owns o) (λ (g : Group). owns o g ≡ true) (λ g. decides_itself (owns o g)) s.heading.groups)
other_decided s p kinds.TwoRoles is tail = roles_decided s.heading p is
other_decided s p kinds.NoRight is tail =
    decides_block s.block (λ n. lacks_right s.heading n p.verb (or_nothing (object_in s.heading p))) (λ b. About s p (λ o. has_right s.heading.version s.heading.setup b.worker (is_update p.verb) o ≡ false)) refl
    (λ b. right_decided s.heading p.verb (object_in s.heading p) b.worker)
other_decided s p kinds.BadNesting is tail = decides_block s.block (is_badly_nested p.verb) (λ b. IsMisplaced b p.verb) refl (misplaced_decided p.verb)
other_decided s p _ is tail = never (λ t. t)

-- if such a line is allowed, the first test that holds gives the fault
pub other_least : (s : ScriptModel) (p : Phrase) → (has_verb s.heading.version p.verb && is_allowed p.verb (is_some (option_map view_of_block s.block)) (length s.schedule)) ≡ true → phrase_fault (context_of_script s) p (object_in s.heading p) ≡ first_that (phrase_tests (context_of_script s) p (object_in s.heading p))
other_least s p allowed = rw allowed refl
