-- Searches, and stages that are changed in place.
use Rattle.std.proofs.Common.{◌≡◌, ℕ, zero, suc, ◌+◌, ◌-◌, ◌<◌, ◌≤◌, inl, inr, Bool, true}
use Rattle.std.proofs.Common.{false, ◌==◌, cond, List, [], ◌∷◌, ◌++◌, length, reverse, Option}
use Rattle.std.proofs.Common.{Some, None, refl, ap, sym, ◌∙◌, arith, subst, get_or, set, take, drop}
use Rattle.std.proofs.Common.{drop-cons, slice_get, length-append}
use Rattle.std.proofs.lemmas.List.{get_or_default, length-map, map-append}
use Rattle.std.specs.Option.{option_eq}
use Rattle.calls_core.specs.declared.history.Op.TheVariants.{Get}
use Rattle.calls_core.specs.declared.history.Reply.TheVariants.{Done}
use Rattle.std.proofs.lemmas.Bool.{eq-eqb, ne_eqb}
use Rattle.std.proofs.lemmas.List.{take_more, reverse-append, length-reverse, length-take-le}
use Rattle.std.proofs.lemmas.Option.{same_Some}
use Rattle.calls_core.specs.declared.history.PendingCall.{PendingCall}
use Rattle.calls_core.specs.declared.history.Call.{Call}
use Rattle.calls_core.specs.Lists.{Each}
use Rattle.calls_serial.specs.declared.stage.Stage.{Stage}
use Rattle.calls_serial.specs.declared.stage.StageGet.{StageGet}
use Rattle.calls_serial.specs.declared.stage.Link.{Link}
use Rattle.calls_serial.specs.kept.Stages.{StageView, stage_view, helds, is_put, pending_puts, Begins, IsOver}
use Rattle.calls_serial.specs.declared.search.PutChoice.{PutChoice}
use Rattle.calls_serial.specs.declared.search.PutChoice.TheVariants.{At, Shut}
use Rattle.calls_serial.specs.kept.Stages.{gets_of_link, IsPassed, NextLater, NextEarlier, IsReason}
use Rattle.calls_serial.specs.kept.Stages.{IsAt}
use Rattle.calls_serial.specs.kept.Stages.{IsFound, IsEarly, as_get, get_call, stage_gets, links_with, with_get, with_late}
use Rattle.calls_serial.specs.kept.Stages.{with_response}
use Rattle.calls_serial.specs.kept.Passing.{first_of, IsLate}
use Rattle.std.specs.Prelude.{IsTrue, ◌↔◌, is_some}
use Rattle.calls_serial.proofs.Growing.{puts_yes, puts_no}

-- THE FIRST PUT

abbrev pub SamePut : List PendingCall → ℕ → Type 0
SamePut pending i =
    first_of (pending_puts pending) ≡ first_of (pending_puts (drop i pending))

pub put_here : (pending : List PendingCall) (i : ℕ) (d : PendingCall) → i < length pending
    → is_put (get_or pending i d).op ≡ true → SamePut pending i
    → Some (get_or pending i d) ≡ first_of (pending_puts pending)
put_here pending i d lt e h =
    sym (h ∙ ap (λ os. first_of (pending_puts os)) (drop-cons pending i d lt)
    ∙ ap first_of (puts_yes (get_or pending i d) (drop (suc i) pending) e))

pub put_later : (pending : List PendingCall) (i : ℕ) (d : PendingCall) → i < length pending
    → is_put (get_or pending i d).op ≡ false → SamePut pending i → SamePut pending (i + 1)
put_later pending i d lt e h =
    (let same : suc i ≡ i + 1 = omega arith in
    h ∙ ap (λ os. first_of (pending_puts os)) (drop-cons pending i d lt)
    ∙ ap first_of (puts_no (get_or pending i d) (drop (suc i) pending) e)
    ∙ ap (λ k. first_of (pending_puts (drop k pending))) same)

-- STAGES

pub held_get : (xs : List Stage) (i : ℕ) (d : Stage) (prefix : List StageView) (h : StageView)
    (back : List StageView) → length prefix ≡ i → helds xs ≡ prefix ++ h ∷ back
    → stage_view (get_or xs i d) ≡ h
held_get [] i d [] h back e is = absurd (let k : [] ≡ h ∷ back = is in cc)
held_get [] i d (a ∷ prefix) h back e is = absurd (let k : [] ≡ a ∷ (prefix ++ h ∷ back) = is in cc)
held_get (x ∷ xs) zero d [] h back e is = (let k : stage_view x ∷ helds xs ≡ h ∷ back = is in cc)
held_get (x ∷ xs) zero d (a ∷ prefix) h back e is = absurd (omega arith)
held_get (x ∷ xs) (suc i) d [] h back e is = absurd (omega arith)
held_get (x ∷ xs) (suc i) d (a ∷ prefix) h back e is =
    (let k : stage_view x ∷ helds xs ≡ a ∷ (prefix ++ h ∷ back) = is in
    held_get xs i d prefix h back (omega arith) (let j : helds xs ≡ prefix ++ h ∷ back = cc in j))

pub held_set : (xs : List Stage) (i : ℕ) (s : Stage) (k : StageView) (prefix : List StageView) (h : StageView)
    (back : List StageView) → length prefix ≡ i → helds xs ≡ prefix ++ h ∷ back → stage_view s ≡ k
    → helds (set xs i s) ≡ prefix ++ k ∷ back
held_set [] i s k [] h back e is same = absurd (let j : [] ≡ h ∷ back = is in cc)
held_set [] i s k (a ∷ prefix) h back e is same =
    absurd (let j : [] ≡ a ∷ (prefix ++ h ∷ back) = is in cc)
held_set (x ∷ xs) zero s k [] h back e is same =
    (let j : stage_view x ∷ helds xs ≡ h ∷ back = is in
    let rest : helds xs ≡ back = cc in
    ap (λ (z : StageView). z ∷ helds xs) same ∙ ap (λ zs. k ∷ zs) rest)
held_set (x ∷ xs) zero s k (a ∷ prefix) h back e is same = absurd (omega arith)
held_set (x ∷ xs) (suc i) s k [] h back e is same = absurd (omega arith)
held_set (x ∷ xs) (suc i) s k (a ∷ prefix) h back e is same =
    (let j : stage_view x ∷ helds xs ≡ a ∷ (prefix ++ h ∷ back) = is in
    let first : stage_view x ≡ a = cc in
    let rest : helds xs ≡ prefix ++ h ∷ back = cc in
    ap (λ (z : StageView). z ∷ helds (set xs i s)) first
    ∙ ap (λ zs. a ∷ zs) (held_set xs i s k prefix h back (omega arith) rest same))

pub helds_at : (xs : List Stage) (i : ℕ) (d : Stage) → i < length xs
    → slice_get (helds xs) i ≡ Some (stage_view (get_or xs i d))
helds_at [] i d lt = absurd (omega arith)
helds_at (x ∷ xs) zero d lt = refl
helds_at (x ∷ xs) (suc i) d lt = helds_at xs i d (omega arith)

pub helds_drop : (xs : List Stage) (i : ℕ) (d : Stage) → i < length xs
    → drop i (helds xs) ≡ stage_view (get_or xs i d) ∷ drop (suc i) (helds xs)
helds_drop [] i d lt = absurd (omega arith)
helds_drop (x ∷ xs) zero d lt = refl
helds_drop (x ∷ xs) (suc i) d lt = helds_drop xs i d (omega arith)

pub helds_past : (xs : List Stage) (i : ℕ) → length xs ≤ i → drop i (helds xs) ≡ []
helds_past [] zero le = refl
helds_past [] (suc i) le = refl
helds_past (x ∷ xs) zero le = absurd (omega arith)
helds_past (x ∷ xs) (suc i) le = helds_past xs i (omega arith)

pub helds_taken : (xs : List Stage) (n i : ℕ) (d : Stage) → i < n → i < length xs
    → drop i (take n (helds xs))
    ≡ stage_view (get_or xs i d) ∷ drop (suc i) (take n (helds xs))
helds_taken [] n i d lt le = absurd (omega arith)
helds_taken (x ∷ xs) zero i d lt le = absurd (omega arith)
helds_taken (x ∷ xs) (suc n) zero d lt le = refl
helds_taken (x ∷ xs) (suc n) (suc i) d lt le = helds_taken xs n i d (omega arith) (omega arith)

-- the first stage has no put to be passed
pub begins_passed : (f x : ℕ) (hs : List StageView) → Begins hs → Each (IsPassed f x) hs → ⊥
begins_passed f x [] b h = b
begins_passed f x (a ∷ hs) b h = h.0.over (subst (IsOver f) (sym b) tt)

-- CHAINS

pub gathered_on : (next : Option ℕ) (i : ℕ) (l : Link) (ls : List Link) → length ls ≡ i
    → (next ≡ Some i → ⊥) → gets_of_link next (l ∷ ls) ≡ gets_of_link next ls
gathered_on None i l ls e h = refl
gathered_on (Some j) i l ls e h =
    ap (λ b. cond b (l.get ∷ gets_of_link l.because ls) (gets_of_link (Some j) ls))
    (ne_eqb j (length ls) (λ same. h (ap Some (same ∙ e))))

pub taken_links : (xs : List Link) (i : ℕ) (d : Link) → i < length xs
    → reverse (take (i + 1) xs) ≡ get_or xs i d ∷ reverse (take i xs)
taken_links xs i d lt =
    ap reverse (take_more xs i d lt) ∙ reverse-append (take i xs) (get_or xs i d ∷ [])

pub taken_length : (xs : List Link) (i : ℕ) → i ≤ length xs → length (reverse (take i xs)) ≡ i
taken_length xs i le = omega (arith, length-reverse (take i xs), length-take-le i xs le)

no_link : Link
no_link = record {
  get = record { worker = 0; object = 0; op = Get; reply = Done; first = 0; last = 0 };
  because = None;
}

pub chain_on : (links : List Link) (i j : ℕ) (next : Option ℕ) (gets rest : List Call)
    → i ≤ length links → i ≡ j + 1 → option_eq (λ a b. a == b) next (Some j) ≡ false
    → gets ++ gets_of_link next (reverse (take i links)) ≡ rest
    → gets ++ gets_of_link next (reverse (take j links)) ≡ rest
chain_on links i j next gets rest le e other h =
    ap (λ zs. gets ++ zs)
    (sym (gathered_on next j (get_or links j no_link) (reverse (take j links))
    (taken_length links j (omega arith)) (λ same. differ same))
    ∙ ap (gets_of_link next) (sym (taken_links links j no_link (omega arith)))
    ∙ ap (λ k. gets_of_link next (reverse (take k links))) (sym e))
    ∙ h
  where
    differ : next ≡ Some j → ⊥
    differ same =
        (let no : true ≡ false =
        sym (ap (λ o. option_eq (λ a b. a == b) o (Some j)) same ∙ eq-eqb j j refl) ∙ other in
        cc)

-- THE RESULT OF A SEARCH

pub stage_is : (xs : List Stage) (i : ℕ) (d : Stage) (h : StageView) → i < length xs
    → slice_get (helds xs) i ≡ Some h → stage_view (get_or xs i d) ≡ h
stage_is xs i d h lt here =
    same_Some (stage_view (get_or xs i d)) h (sym (helds_at xs i d lt) ∙ here)

tail_is : (xs : List Stage) (i j : ℕ) (e : Stage) → j ≡ suc i → j < length xs
    → drop (suc i) (helds xs) ≡ stage_view (get_or xs j e) ∷ drop (suc j) (helds xs)
tail_is xs i j e next lt = ap (λ k. drop k (helds xs)) (sym next) ∙ helds_drop xs j e lt

-- the next stage has its moment before first
pub early_shut : (xs : List Stage) (i j first x : ℕ) (d e g : Stage) → j ≡ suc i
    → i < length xs → j < length xs → (get_or xs i d).value ≡ x
    → (get_or xs j g).moment < first
    → (h : StageView) → slice_get (helds xs) i ≡ Some h
    → IsReason first x h (drop (suc i) (helds xs)) (get_or xs j e).link
early_shut xs i j first x d e g next lt less value early h here = inr (
  ap (λ (z : StageView). z.value) (sym (stage_is xs i d h lt here)) ∙ value,
  subst (λ hs. NextEarlier first hs (get_or xs j e).link) (sym (tail_is xs i j e next less)) (
    (let same = ap (λ (z : Stage). z.moment) (get_or_default xs j e g less) in omega arith),
    refl,
  ),
)

-- the next stage has its moment later, or there is none
pub early_next : (xs : List Stage) (i j first x : ℕ) (d e : Stage) → j ≡ suc i → i < length xs
    → j < length xs → (get_or xs i d).value ≡ x → first ≤ (get_or xs j e).moment
    → (h : StageView) → slice_get (helds xs) i ≡ Some h
    → (h.value ≡ x) × NextLater first (drop (suc i) (helds xs))
early_next xs i j first x d e next lt less value late h here = (
  ap (λ (z : StageView). z.value) (sym (stage_is xs i d h lt here)) ∙ value,
  subst (NextLater first) (sym (tail_is xs i j e next less)) late,
)

pub early_last : (xs : List Stage) (i first x : ℕ) (d : Stage) → i < length xs
    → length xs ≤ suc i → (get_or xs i d).value ≡ x → (h : StageView)
    → slice_get (helds xs) i ≡ Some h
    → (h.value ≡ x) × NextLater first (drop (suc i) (helds xs))
early_last xs i first x d lt le value h here = (
  ap (λ (z : StageView). z.value) (sym (stage_is xs i d h lt here)) ∙ value,
  subst (NextLater first) (sym (helds_past xs (suc i) le)) tt,
)

module _ (xs : List Stage) (n first x i : ℕ) (d e : Stage) (lt : i < n) (le : n ≤ length xs) where
  within : i < length xs
  within = omega arith

  same : get_or xs i e ≡ get_or xs i d
  same = get_or_default xs i e d within

  pub early_found : (j : ℕ) → j ≡ suc i → IsOver first (get_or xs i d).put
      → Each (IsPassed first x) (drop j (take n (helds xs))) → (f : PutChoice)
      → IsEarly (helds xs) first x i f → IsFound (helds xs) n first x f
  early_found j next over passed (At k) h =
      (let own = h.1 (stage_view (get_or xs i d)) (helds_at xs i d within) in
      subst (λ z. IsAt (helds xs) n first x z) (sym h.0) (record {
        stage = stage_view (get_or xs i d);
        here = helds_at xs i d within;
        within = lt;
        value = own.0;
        may = inr own.1;
      }))
  early_found j next over passed (Shut because) h = record {
    index = i;
    stage = stage_view (get_or xs i d);
    here = helds_at xs i d within;
    within = lt;
    over = over;
    passed = subst (λ k. Each (IsPassed first x) (drop k (take n (helds xs)))) next passed;
    reason = h (stage_view (get_or xs i d)) (helds_at xs i d within);
  }

  pub late_found : (IsOver first (get_or xs i d).put → ⊥) → (get_or xs i e).value ≡ x
      → IsAt (helds xs) n first x i
  late_found late value = record {
    stage = stage_view (get_or xs i d);
    here = helds_at xs i d within;
    within = lt;
    value = ap (λ (z : Stage). z.value) (sym same) ∙ value;
    may = inl late;
  }

  pub passed_more : (j : ℕ) → j ≡ suc i → (IsOver first (get_or xs i d).put → ⊥)
      → ((get_or xs i e).value ≡ x → ⊥)
      → Each (IsPassed first x) (drop j (take n (helds xs)))
      → Each (IsPassed first x) (drop i (take n (helds xs)))
  passed_more j next late other h =
      subst (Each (IsPassed first x))
      (sym (helds_taken xs n i d lt within
      ∙ ap (λ k. stage_view (get_or xs i d) ∷ drop k (take n (helds xs))) (sym next))) (
        record {
          over = late;
          other = λ v. other (ap (λ (z : Stage). z.value) same ∙ v);
        },
        h,
      )

-- THE LAST STAGE

pub last_is : (xs : List Stage) (prefix : List StageView) (h : StageView) → helds xs ≡ prefix
    ++ h ∷ []
    → length prefix ≡ length xs - 1
last_is xs prefix h e =
    omega (arith, ap length e, length-map xs stage_view, length-append prefix (h ∷ []))

pub last_late : (xs : List Stage) (links : List Link) (prefix : List StageView) (h : StageView)
    (l : Link) (s d : Stage) (n k : ℕ) (first : Bool) → helds xs ≡ prefix ++ h ∷ []
    → IsLate (stage_view (get_or xs n d)) (stage_view s) l.get k first → n ≡ length xs - 1
    → k ≡ length links
    → (helds (set xs n s) ≡ prefix ++ with_late (as_get h.value l.get) (length links) h ∷ [])
    × (IsTrue first ↔ (h.link ≡ None))
last_late xs links prefix h l s d n k first e late is many =
    (let at : length prefix ≡ n = last_is xs prefix h e ∙ sym is in
    let own : stage_view (get_or xs n d) ≡ h = held_get xs n d prefix h [] at e in (
      held_set xs n s (with_late (as_get h.value l.get) (length links) h) prefix h [] at e
          (late.stage ∙ ap (λ (z : StageView). with_late (as_get z.value l.get) k z) own
          ∙ ap (λ i. with_late (as_get h.value l.get) i h) many),
      subst (λ (z : StageView). IsTrue first ↔ (z.link ≡ None)) own late.said,
    ))

pub links_new : (h : StageView) (l : Link) (links : List Link) → h.link ≡ None
    → reverse (links ++ l ∷ []) ≡ links_with h.link l (reverse links)
links_new h l links e =
    reverse-append links (l ∷ []) ∙ ap (λ o. links_with o l (reverse links)) (sym e)

pub links_old : (h : StageView) (l : Link) (links : List Link) → (h.link ≡ None → ⊥)
    → reverse links ≡ links_with h.link l (reverse links)
links_old h l links other = by h.link other
  where
    by : (o : Option ℕ) → (o ≡ None → ⊥) → reverse links ≡ links_with o l (reverse links)
    by None f = absurd (f refl)
    by (Some i) f = refl

pub last_full : (xs : List Stage) (prefix : List StageView) (h : StageView) (c : Call) (s d : Stage) (n : ℕ)
    → helds xs ≡ prefix ++ h ∷ [] → stage_view s ≡ with_response c (stage_view (get_or xs n d))
    → n ≡ length xs - 1 → helds (set xs n s) ≡ prefix ++ with_response c h ∷ []
last_full xs prefix h c s d n e full is =
    (let at : length prefix ≡ n = last_is xs prefix h e ∙ sym is in
    held_set xs n s (with_response c h) prefix h [] at e
    (full ∙ ap (with_response c) (held_get xs n d prefix h [] at e)))

-- one more get of a stage
pub more_gets : (v : ℕ) (gs : List StageGet) (g : StageGet) (c : Call)
    → ((w : ℕ) → get_call w g ≡ as_get w c)
    → stage_gets v (gs ++ g ∷ []) ≡ stage_gets v gs ++ as_get v c ∷ []
more_gets v gs g c is = map-append (get_call v) gs (g ∷ [])
    ∙ ap (λ x. stage_gets v gs ++ x ∷ []) (is v)

-- a late get, if the stage has a link or none
pub late_kept : (s : StageView) (link : Option ℕ) (c : Call) (n : ℕ) → is_some link ≡ true
    → IsLate (record { put = s.put; value = s.value; moment = s.moment; link = link; gets = s.gets })
    (record {
      put = s.put;
      value = s.value;
      moment = s.moment;
      link = link;
      gets = s.gets ++ as_get s.value c ∷ [];
    }) c n false
late_kept s None c n e = absurd (let no : false ≡ true = e in cc)
late_kept s (Some i) c n e = record {
  stage = refl;
  said = (λ t. absurd (let no : false ≡ true = t in cc), λ k. absurd (let no : Some i ≡ None = k in cc));
}

pub late_first : (s : StageView) (link : Option ℕ) (c : Call) (n : ℕ) → is_some link ≡ false
    → IsLate (record { put = s.put; value = s.value; moment = s.moment; link = link; gets = s.gets })
    (record {
      put = s.put;
      value = s.value;
      moment = c.last;
      link = Some n;
      gets = s.gets ++ as_get s.value c ∷ [];
    }) c n true
late_first s None c n e = record { stage = refl; said = (λ t. refl, λ k. refl) }
late_first s (Some i) c n e = absurd (let no : true ≡ false = e in cc)

pub pushed : (xs : List Stage) (prefix : List StageView) (h : StageView) (back : List StageView) (i : ℕ)
    (c : Call) (s d : Stage) → length prefix ≡ i → helds xs ≡ prefix ++ h ∷ back
    → stage_view s ≡ with_get (as_get (get_or xs i d).value c) (stage_view (get_or xs i d))
    → helds (set xs i s) ≡ prefix ++ with_get (as_get h.value c) h ∷ back
pushed xs prefix h back i c s d at e own =
    held_set xs i s (with_get (as_get h.value c) h) prefix h back at e
    (own ∙ ap (λ (z : StageView). with_get (as_get z.value c) z) (held_get xs i d prefix h back at e))
