-- A worker follows a buffer exactly if its calls are the written lists, joined end to end.
use Rattle.std.proofs.Common.{◌≡◌, ℕ, zero, suc, ◌<◌, ◌≤◌, Bool, true, false, not, List, [], ◌∷◌, length, Option, Some, None, is_some, refl, ap, sym, ◌∙◌, arith, cond, slice_get, take, get_or}
use Rattle.std.specs.Prelude.{All, IfSome, ◌↔◌}
use Rattle.std.proofs.lemmas.List.{length-take-le}
use Rattle.std.proofs.lemmas.Option.{slice_get_within, slice_get_past, slice_get-get_or}
use Rattle.ec_count.specs.Tables.{may_take}
use Rattle.ec_core.specs.declared.act.Act.{Act}
use Rattle.ec_core.specs.CallLists.{is_due, without_value, rule_of}
use Rattle.ec_core.specs.Following.{CompletedCall, Rule}
use Rattle.ec_core.specs.JoinedLists.{ComesNext, IsListPrefix, IsWholeList, IsJoined, SpeaksOf, is_whole}
use Rattle.ec_core.proofs.shared.Following.{is_act-true, is_act-same}
use Rattle.ec_core.proofs.shared.JoinedLists.{following_joins}
use Rattle.ec_buffer.specs.Shapes.{Buffer}
use Rattle.ec_buffer.specs.CallLists.{produce_list, consume_list, drawn_ticket}
use Rattle.ec_buffer.specs.Follows.{is_on, produce_rule, consume_rule, buffer_rules}
use Rattle.ec_buffer.specs.Joined.{IsActListPrefix, IsWhole, IsNext, AreLists, FollowingMeansLists}
use Rattle.ec_buffer.proofs.shared.LeftOut.{speaks}

abbrev rule : (Act → Bool) → (ℕ → List Act) → Rule
rule on list = rule_of on (λ calls. slice_get (list (drawn_ticket calls)) (length calls))

-- the list begins alike for each ticket, and has a call
pub record IsList (list : ℕ → List Act) : Type 0 where
  pub first : (turn : ℕ) → slice_get (list turn) 0 ≡ slice_get (list 0) 0
  pub some : (turn : ℕ) → 0 < length (list turn)

due_is_next : (o : Option Act) (a : Act) → is_due o a ≡ true → o ≡ Some a
due_is_next None a h = cc
due_is_next (Some due) a h = ap Some (is_act-true due a h)

next_of : (on : Act → Bool) (list : ℕ → List Act) (calls : List CompletedCall) (op : Act) → ComesNext (rule on list) calls op → IsNext list calls op
next_of on list calls op n = due_is_next (slice_get (list (drawn_ticket calls)) (length calls)) (without_value op) n.fits

goes_on : (on : Act → Bool) (list : ℕ → List Act) (calls : List CompletedCall) (op : Act) → IsNext list calls op → is_whole (rule on list) calls ≡ false
goes_on on list [] op n = refl
goes_on on list (c ∷ calls) op n = ap (λ o. not (is_some o)) n

comes_of : (on : Act → Bool) (list : ℕ → List Act) (calls : List CompletedCall) (op : Act) → IsNext list calls op → ComesNext (rule on list) calls op
comes_of on list calls op n = record {
  fits = ap (λ o. is_due o (without_value op)) n ∙ is_act-same (without_value op);
  goes_on = goes_on on list calls op n;
}

-- the call that the list has next after the first k calls is the one at index k of the list
turn_kept : (list : ℕ → List Act) (calls : List CompletedCall) (k : ℕ) (c : CompletedCall) → IsList list → slice_get calls k ≡ Some c
    → slice_get (list (drawn_ticket (take k calls))) (length (take k calls)) ≡ slice_get (list (drawn_ticket calls)) k
turn_kept list [] k c l at = cc
turn_kept list (d ∷ calls) zero c l at = sym (l.first (drawn_ticket (d ∷ calls)))
turn_kept list (d ∷ calls) (suc k) c l at =
    ap (slice_get (list (drawn_ticket (d ∷ calls)))) (length-take-le (suc k) (d ∷ calls) (let lt = slice_get_within (d ∷ calls) (suc k) c at in omega arith))

begun_of : (on : Act → Bool) (list : ℕ → List Act) (calls : List CompletedCall) → IsList list → IsListPrefix (rule on list) calls → IsActListPrefix list calls
begun_of on list calls l h k c at = sym (turn_kept list calls k c l at) ∙ next_of on list (take k calls) c.op (h k c at)

beginning_of : (on : Act → Bool) (list : ℕ → List Act) (calls : List CompletedCall) → IsList list → IsActListPrefix list calls → IsListPrefix (rule on list) calls
beginning_of on list calls l h k c at = comes_of on list (take k calls) c.op (turn_kept list calls k c l at ∙ h k c at)

-- a list that has nothing at an index ends before it
at_end : (acts : List Act) (n : ℕ) → not (is_some (slice_get acts n)) ≡ true → length acts ≤ n
at_end [] n h = omega arith
at_end (a ∷ acts) zero h = cc
at_end (a ∷ acts) (suc n) h = (let le = at_end acts n h in omega arith)

whole_of : (on : Act → Bool) (list : ℕ → List Act) (calls : List CompletedCall) → IsList list → IsWholeList (rule on list) calls → IsWhole list calls
whole_of on list [] l h = (let no = h.whole in cc)
whole_of on list (c ∷ calls) l h =
    let begun = begun_of on list (c ∷ calls) l h.each in
    let high = at_end (list (drawn_ticket (c ∷ calls))) (length (c ∷ calls)) h.whole in
    let last = slice_get-get_or (c ∷ calls) (length calls) c (omega arith) in
    let low = slice_get_within (list (drawn_ticket (c ∷ calls))) (length calls) _ (begun (length calls) (get_or (c ∷ calls) (length calls) c) last) in
    record { each = begun; all = omega arith }

whole_list : (on : Act → Bool) (list : ℕ → List Act) (calls : List CompletedCall) → IsList list → IsWhole list calls → IsWholeList (rule on list) calls
whole_list on list [] l h = (let some = l.some 0 in let none = h.all in absurd (omega arith))
whole_list on list (c ∷ calls) l h = record {
  each = beginning_of on list (c ∷ calls) l h.each;
  whole = ap (λ o. not (is_some o)) (slice_get_past (list (drawn_ticket (c ∷ calls))) (length (c ∷ calls)) (let all = h.all in omega arith));
}

if_some : (P Q : Act → Type 0) → ((op : Act) → P op → Q op) → (o : Option Act) → IfSome o P → IfSome o Q
if_some P Q f None h = h
if_some P Q f (Some op) h = f op h

each : (P Q : List CompletedCall → Type 0) → ((calls : List CompletedCall) → P calls → Q calls) → (lists : List (List CompletedCall)) → All P lists → All Q lists
each P Q f lists h = λ k d lt. f (get_or lists k d) (h k d lt)

lists_of : (on : Act → Bool) (list : ℕ → List Act) (calls : List CompletedCall) (going : Option Act) → IsList list → IsJoined (rule on list) calls going → AreLists list calls going
lists_of on list calls going l j = record {
  lists = j.lists;
  last = j.last;
  order = j.order;
  whole = each (IsWholeList (rule on list)) (IsWhole list) (λ part h. whole_of on list part l h) j.lists j.whole;
  begun = begun_of on list j.last l j.begun;
  next = if_some (ComesNext (rule on list) j.last) (IsNext list j.last) (λ op n. next_of on list j.last op n) going j.next;
}

joined_of : (on : Act → Bool) (list : ℕ → List Act) (calls : List CompletedCall) (going : Option Act) → IsList list → AreLists list calls going → IsJoined (rule on list) calls going
joined_of on list calls going l j = record {
  lists = j.lists;
  last = j.last;
  order = j.order;
  whole = each (IsWhole list) (IsWholeList (rule on list)) (λ part h. whole_list on list part l h) j.lists j.whole;
  begun = beginning_of on list j.last l j.begun;
  next = if_some (IsNext list j.last) (ComesNext (rule on list) j.last) (λ op n. comes_of on list j.last op n) going j.next;
}

produce_is : (b : Buffer) → IsList (produce_list b 0)
produce_is b = record { first = λ turn. refl; some = λ turn. omega arith }

consume_is : (b : Buffer) → IsList (consume_list b)
consume_is b = record { first = λ turn. refl; some = λ turn. omega arith }

-- either role
role_lists : (b : Buffer) (p : Bool) (calls : List CompletedCall) (going : Option Act)
    → IsJoined (cond p (produce_rule b) (consume_rule b)) calls going ↔ AreLists (cond p (produce_list b 0) (consume_list b)) calls going
role_lists b true calls going = (lists_of (is_on b) (produce_list b 0) calls going (produce_is b), joined_of (is_on b) (produce_list b 0) calls going (produce_is b))
role_lists b false calls going = (lists_of (is_on b) (consume_list b) calls going (consume_is b), joined_of (is_on b) (consume_list b) calls going (consume_is b))

pub following_means : FollowingMeansLists
following_means t b h d acc =
    let joins = following_joins t (buffer_rules t b) (λ w. is_on b) h d acc (λ w. speaks b (may_take t b.put_seq w)) in (
      λ f w. (role_lists b (may_take t b.put_seq w) _ _).0 (joins.0 f w),
      λ l. joins.1 (λ w. (role_lists b (may_take t b.put_seq w) _ _).1 (l w)),
    )
