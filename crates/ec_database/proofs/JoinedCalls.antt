-- A worker follows a database exactly if its calls are the written lists, joined end to end.
use Rattle.std.proofs.Common.{◌≡◌, ℕ, zero, suc, ◌+◌, ◌<◌, ◌≤◌, Bool, true, false, not, List, [], ◌∷◌, length, Option, Some, None, is_some, nat_lt, refl, ap, sym, ◌∙◌, arith, cond, ◌==◌, slice_get, take, get_or, replicate}
use Rattle.std.specs.Prelude.{All, IfSome, ◌↔◌}
use Rattle.std.proofs.lemmas.List.{length-take-le, length-replicate}
use Rattle.std.proofs.lemmas.Option.{slice_get_within, slice_get_past, slice_get-get_or}
use Rattle.ec_core.specs.declared.act.Act.{Act}
use Rattle.ec_core.specs.declared.act.Act.TheVariants.{Advance, Put}
use Rattle.ec_core.specs.CallLists.{is_due, without_value, rule_of}
use Rattle.ec_core.specs.Following.{CompletedCall}
use Rattle.ec_core.specs.JoinedLists.{ComesNext, IsListPrefix, IsWholeList, IsJoined, SpeaksOf, is_whole}
use Rattle.ec_core.proofs.shared.Following.{is_act-true, is_act-same}
use Rattle.ec_core.proofs.shared.JoinedLists.{following_joins}
use Rattle.ec_database.specs.Shapes.{Database}
use Rattle.ec_database.specs.Calls.{first_number, drawn_turn, write_call, try_call, write_list, try_list}
use Rattle.ec_database.specs.Following.{is_on, writes, write_rule, try_rule, database_rules}
use Rattle.ec_database.specs.Joined.{acts_by_replies, IsActListPrefix, IsWhole, IsNext, AreLists, FollowingMeansLists}
use Rattle.ec_database.proofs.Spelled.{writing, a_try}
use Rattle.ec_database.proofs.shared.LeftOut.{speaks}

-- the call that comes next is that of the list, in which nothing changes at an index that was
-- reached
record IsList (call : List CompletedCall → Option Act) (list : List CompletedCall
    → List Act) : Type 0 where
  is : (calls : List CompletedCall) → call calls ≡ slice_get (list calls) (length calls)
  kept : (calls : List CompletedCall) (k : ℕ) → k < length calls → slice_get (list (take k calls)) k ≡ slice_get (list calls) k
  some : 0 < length (list [])

due_is_next : (o : Option Act) (a : Act) → is_due o a ≡ true → o ≡ Some a
due_is_next None a h = cc
due_is_next (Some due) a h = ap Some (is_act-true due a h)

next_of : (on : Act → Bool) (call : List CompletedCall → Option Act) (list : List CompletedCall → List Act) (calls : List CompletedCall) (op : Act) → IsList call list → ComesNext (rule_of on call) calls op → IsNext list calls op
next_of on call list calls op l n = sym (l.is calls)
    ∙ due_is_next (call calls) (without_value op) n.fits

goes_on : (on : Act → Bool) (call : List CompletedCall → Option Act) (calls : List CompletedCall) (op : Act) → call calls ≡ Some op → is_whole (rule_of on call) calls ≡ false
goes_on on call [] op n = refl
goes_on on call (c ∷ calls) op n = ap (λ o. not (is_some o)) n

comes_of : (on : Act → Bool) (call : List CompletedCall → Option Act) (list : List CompletedCall → List Act) (calls : List CompletedCall) (op : Act) → IsList call list → IsNext list calls op → ComesNext (rule_of on call) calls op
comes_of on call list calls op l n = (let is : call calls ≡ Some (without_value op) = l.is calls ∙ n in record {
  fits = ap (λ o. is_due o (without_value op)) is ∙ is_act-same (without_value op);
  goes_on = goes_on on call calls (without_value op) is;
})

-- the call that the list has next after the first k calls is the one at index k of the list
place_kept : (call : List CompletedCall → Option Act) (list : List CompletedCall → List Act) (calls : List CompletedCall) (k : ℕ) (c : CompletedCall) → IsList call list → slice_get calls k ≡ Some c
    → slice_get (list (take k calls)) (length (take k calls)) ≡ slice_get (list calls) k
place_kept call list calls k c l at =
    let lt : k < length calls = slice_get_within calls k c at in
    ap (slice_get (list (take k calls))) (length-take-le k calls (omega arith)) ∙ l.kept calls k lt

begun_of : (on : Act → Bool) (call : List CompletedCall → Option Act) (list : List CompletedCall → List Act) (calls : List CompletedCall) → IsList call list → IsListPrefix (rule_of on call) calls → IsActListPrefix list calls
begun_of on call list calls l h k c at = sym (place_kept call list calls k c l at) ∙ next_of on call list (take k calls) c.op l (h k c at)

beginning_of : (on : Act → Bool) (call : List CompletedCall → Option Act) (list : List CompletedCall → List Act) (calls : List CompletedCall) → IsList call list → IsActListPrefix list calls → IsListPrefix (rule_of on call) calls
beginning_of on call list calls l h k c at = comes_of on call list (take k calls) c.op l (place_kept call list calls k c l at ∙ h k c at)

-- a list that has nothing at an index ends before it
at_end : (acts : List Act) (n : ℕ) → not (is_some (slice_get acts n)) ≡ true → length acts ≤ n
at_end [] n h = omega arith
at_end (a ∷ acts) zero h = cc
at_end (a ∷ acts) (suc n) h = (let le = at_end acts n h in omega arith)

whole_of : (on : Act → Bool) (call : List CompletedCall → Option Act) (list : List CompletedCall → List Act) (calls : List CompletedCall) → IsList call list → IsWholeList (rule_of on call) calls → IsWhole list calls
whole_of on call list [] l h = (let no = h.whole in cc)
whole_of on call list (c ∷ calls) l h =
    let begun = begun_of on call list (c ∷ calls) l h.each in
    let high = at_end (list (c ∷ calls)) (length (c ∷ calls)) (ap (λ o. not (is_some o)) (sym (l.is (c ∷ calls))) ∙ h.whole) in
    let last = slice_get-get_or (c ∷ calls) (length calls) c (omega arith) in
    let low = slice_get_within (list (c ∷ calls)) (length calls) _ (begun (length calls) (get_or (c ∷ calls) (length calls) c) last) in
    record { each = begun; all = omega arith }

whole_list : (on : Act → Bool) (call : List CompletedCall → Option Act) (list : List CompletedCall → List Act) (calls : List CompletedCall) → IsList call list → IsWhole list calls → IsWholeList (rule_of on call) calls
whole_list on call list [] l h = (let some = l.some in let none = h.all in absurd (omega arith))
whole_list on call list (c ∷ calls) l h = record {
  each = beginning_of on call list (c ∷ calls) l h.each;
  whole = ap (λ o. not (is_some o)) (l.is (c ∷ calls) ∙ slice_get_past (list (c ∷ calls)) (length (c ∷ calls)) (let all = h.all in omega arith));
}

if_some : (P Q : Act → Type 0) → ((op : Act) → P op → Q op) → (o : Option Act) → IfSome o P → IfSome o Q
if_some P Q f None h = h
if_some P Q f (Some op) h = f op h

each : (P Q : List CompletedCall → Type 0) → ((calls : List CompletedCall) → P calls → Q calls) → (lists : List (List CompletedCall)) → All P lists → All Q lists
each P Q f lists h = λ k d lt. f (get_or lists k d) (h k d lt)

lists_of : (on : Act → Bool) (call : List CompletedCall → Option Act) (list : List CompletedCall → List Act) (calls : List CompletedCall) (going : Option Act) → IsList call list → IsJoined (rule_of on call) calls going → AreLists list calls going
lists_of on call list calls going l j = record {
  lists = j.lists;
  last = j.last;
  order = j.order;
  whole = each (IsWholeList (rule_of on call)) (IsWhole list) (λ part h. whole_of on call list part l h) j.lists j.whole;
  begun = begun_of on call list j.last l j.begun;
  next = if_some (ComesNext (rule_of on call) j.last) (IsNext list j.last) (λ op n. next_of on call list j.last op l n) going j.next;
}

joined_of : (on : Act → Bool) (call : List CompletedCall → Option Act) (list : List CompletedCall → List Act) (calls : List CompletedCall) (going : Option Act) → IsList call list → AreLists list calls going → IsJoined (rule_of on call) calls going
joined_of on call list calls going l j = record {
  lists = j.lists;
  last = j.last;
  order = j.order;
  whole = each (IsWhole list) (IsWholeList (rule_of on call)) (λ part h. whole_list on call list part l h) j.lists j.whole;
  begun = beginning_of on call list j.last l j.begun;
  next = if_some (IsNext list j.last) (ComesNext (rule_of on call) j.last) (λ op n. comes_of on call list j.last op l n) going j.next;
}

-- THE TWO LISTS

zero_at : (n k v : ℕ) → v ≡ 0 → get_or (replicate n v) k 0 ≡ v
zero_at zero k v e = sym e
zero_at (suc n) zero v e = refl
zero_at (suc n) (suc k) v e = zero_at n k v e

-- values that are all 0 are as no values
unvalued_call : (d : Database) (calls : List CompletedCall) → write_call d [] calls ≡ write_call d (replicate d.cells 0) calls
unvalued_call d [] = refl
unvalued_call d (a ∷ []) = refl
unvalued_call d (a ∷ t ∷ []) = refl
unvalued_call d (a ∷ t ∷ i ∷ puts) =
    ap (λ v. cond (nat_lt (length puts) d.cells) (Some (Put (d.first_cell + length puts) v)) (cond (length puts == d.cells) (Some (Advance d.done)) None)) (sym (zero_at d.cells (length puts) 0 refl))

write_kept : (d : Database) (values : List ℕ) (calls : List CompletedCall) (k : ℕ) → k < length calls → slice_get (write_list d values (drawn_turn (take k calls))) k ≡ slice_get (write_list d values (drawn_turn calls)) k
write_kept d values [] k lt = absurd (omega arith)
write_kept d values (a ∷ calls) zero lt = refl
write_kept d values (a ∷ []) (suc k) lt = absurd (omega arith)
write_kept d values (a ∷ t ∷ calls) (suc zero) lt = refl
write_kept d values (a ∷ t ∷ calls) (suc (suc k)) lt = refl

try_kept : (d : Database) (calls : List CompletedCall) (k : ℕ) → k < length calls → slice_get (try_list d (first_number (take k calls))) k ≡ slice_get (try_list d (first_number calls)) k
try_kept d [] k lt = absurd (omega arith)
try_kept d (w ∷ calls) zero lt = refl
try_kept d (w ∷ calls) (suc k) lt = refl

write_is : (d : Database) → IsList (write_call d []) (acts_by_replies d true)
write_is d = record {
  is = λ calls. unvalued_call d calls ∙ writing d (replicate d.cells 0) calls (length-replicate d.cells 0);
  kept = write_kept d (replicate d.cells 0);
  some = omega arith;
}

try_is : (d : Database) → IsList (try_call d) (acts_by_replies d false)
try_is d = record { is = a_try d; kept = try_kept d; some = omega arith }

-- either role
role_lists : (d : Database) (p : Bool) (calls : List CompletedCall) (going : Option Act) → IsJoined (cond p (write_rule d) (try_rule d)) calls going ↔ AreLists (acts_by_replies d p) calls going
role_lists d true calls going = (lists_of (is_on d) (write_call d []) (acts_by_replies d true) calls going (write_is d), joined_of (is_on d) (write_call d []) (acts_by_replies d true) calls going (write_is d))
role_lists d false calls going = (lists_of (is_on d) (try_call d) (acts_by_replies d false) calls going (try_is d), joined_of (is_on d) (try_call d) (acts_by_replies d false) calls going (try_is d))

pub following_means : FollowingMeansLists
following_means t d h dec acc =
    let joins = following_joins t (database_rules t d) (λ w. is_on d) h dec acc (λ w. speaks d (writes t d w)) in (
      λ f w. (role_lists d (writes t d w) _ _).0 (joins.0 f w),
      λ l. joins.1 (λ w. (role_lists d (writes t d w) _ _).1 (l w)),
    )
