-- P, V and P on two semaphores suit the rule of a semaphore.
use Rattle.std.proofs.Common.{◌≡◌, ℕ, ◌+◌, ◌-◌, true, false, ◌==◌, cond, List, [], ◌∷◌, ◌++◌, Some, None, refl, sym, ◌∙◌, ap, subst, arith, ◌⊎◌, inl, inr}
use Rattle.std.proofs.lemmas.Bool.{eq-eqb, and_from}
use Rattle.ec_core.specs.declared.act.Act.{Act}
use Rattle.ec_core.specs.declared.act.Act.TheVariants.{Advance, Await, Ticket}
use Rattle.ec_core.specs.Counts.{is_advance}
use Rattle.ec_core.specs.Following.{CompletedCall, extend_list}
use Rattle.ec_core.specs.CallLists.{is_due, reply_number}
use Rattle.ec_core.proofs.shared.Following.{is_act-same}
use Rattle.ec_core.proofs.shared.FittingCalls.{is_fitting}
use Rattle.ec_semaphore.specs.Shapes.{Semaphore}
use Rattle.ec_semaphore.specs.Uses.{threshold, down_call, up_call, is_on, use_rule, use_rules}
use Rattle.ec_semaphore.specs.Both.{down_both_call}
use Rattle.ec_machine.specs.declared.command.Command.{Command, Down, Up, DownBoth}
use Rattle.ec_machine.specs.Runs.{command_call}
use Rattle.ec_script_theorems.specs.Uses.{AreSeparate, AreThree, IsOfSemaphore, UsesSemaphore}
use Rattle.ec_script_theorems.specs.Laws.{SemaphoresAreFollowed}
use Rattle.ec_script_theorems.proofs.Suiting.{Suits, suits_tracked, suits_apart, fitting, unconcerned, extended_on, extended_off, at_op}
use Rattle.ec_script_theorems.proofs.Tests.{or_first, other_way}
use Rattle.ec_script_theorems.proofs.Workers.{programs_follow}
use Rattle.ec_semaphore.proofs.shared.Implying.{fits_or as or_second}

-- THE OBJECTS OF A SEMAPHORE

pub on_line : (s : Semaphore) → is_on s (Ticket s.line) ≡ true
on_line s = eq-eqb s.line s.line refl

pub on_wait : (s : Semaphore) (n : ℕ) → is_on s (Await s.count n) ≡ true
on_wait s n = eq-eqb s.count s.count refl

pub on_advance : (s : Semaphore) → is_on s (Advance s.count) ≡ true
on_advance s = eq-eqb s.count s.count refl

pub apart_back : (s u : Semaphore) → AreSeparate s u → AreSeparate u s
apart_back s u apart = record { counts = other_way s.count u.count apart.counts; lines = other_way s.line u.line apart.lines }

-- RIGHT CALLS

right_down : (s : Semaphore) (b : List CompletedCall) (op : Act) → is_due (down_call s b) op ≡ true → (use_rule s).fits b op ≡ true
right_down s b op is = or_first (is_due (down_call s b) op) (is_due (up_call s b) op) is

right_up : (s : Semaphore) (b : List CompletedCall) (op : Act) → is_due (up_call s b) op ≡ true → (use_rule s).fits b op ≡ true
right_up s b op is = or_second (is_due (down_call s b) op) (is_due (up_call s b) op) is

-- a ticket begins a P
ticket_fits : (s : Semaphore) → (use_rule s).fits [] (Ticket s.line) ≡ true
ticket_fits s = right_down s [] (Ticket s.line) (is_act-same (Ticket s.line))

wait_fits : (s : Semaphore) (t : CompletedCall) (n : ℕ) → n ≡ threshold s (reply_number t.reply) → (use_rule s).fits (t ∷ []) (Await s.count n) ≡ true
wait_fits s t n is =
    right_down s (t ∷ []) (Await s.count n)
    (and_from (s.count == s.count) (threshold s (reply_number t.reply) == n) (eq-eqb s.count s.count refl) (eq-eqb (threshold s (reply_number t.reply)) n (sym is)))

advance_fits : (s : Semaphore) → (use_rule s).fits [] (Advance s.count) ≡ true
advance_fits s = right_up s [] (Advance s.count) (is_act-same (Advance s.count))

-- the list after such a call
after_ticket : (s : Semaphore) (c : CompletedCall) → Some (Ticket s.line) ≡ Some c.op → extend_list (use_rule s) [] c ≡ c ∷ []
after_ticket s c is =
    extended_on (use_rule s) [] c (at_op (λ a. is_on s a ≡ true) (Ticket s.line) c.op is (on_line s))
    ∙ ap (λ b. cond b [] (c ∷ [])) (at_op (λ a. is_advance s.count a ≡ false) (Ticket s.line) c.op is refl)

after_wait : (s : Semaphore) (t c : CompletedCall) (n : ℕ) → Some (Await s.count n) ≡ Some c.op → extend_list (use_rule s) (t ∷ []) c ≡ []
after_wait s t c n is = extended_on (use_rule s) (t ∷ []) c (at_op (λ a. is_on s a ≡ true) (Await s.count n) c.op is (on_wait s n))

after_advance : (s : Semaphore) (c : CompletedCall) → Some (Advance s.count) ≡ Some c.op → extend_list (use_rule s) [] c ≡ []
after_advance s c is =
    extended_on (use_rule s) [] c (at_op (λ a. is_on s a ≡ true) (Advance s.count) c.op is (on_advance s))
    ∙ ap (λ b. cond b [] (c ∷ [])) (at_op (λ a. is_advance s.count a ≡ true) (Advance s.count) c.op is (eq-eqb s.count s.count refl))

-- a call on another object
fits_aside : (s : Semaphore) (b : List CompletedCall) (a op : Act) → Some a ≡ Some op → is_on s a ≡ false → is_fitting (use_rule s) b op ≡ true
fits_aside s b a op is off = unconcerned (use_rule s) b op (at_op (λ x. is_on s x ≡ false) a op is off)

after_aside : (s : Semaphore) (b : List CompletedCall) (a : Act) (c : CompletedCall) → Some a ≡ Some c.op → is_on s a ≡ false → extend_list (use_rule s) b c ≡ b
after_aside s b a c is off = extended_off (use_rule s) b c (at_op (λ x. is_on s x ≡ false) a c.op is off)

fits_here : (s : Semaphore) (b : List CompletedCall) (a op : Act) → Some a ≡ Some op → (use_rule s).fits b a ≡ true → is_fitting (use_rule s) b op ≡ true
fits_here s b a op is fits = fitting (use_rule s) b op (at_op (λ x. (use_rule s).fits b x ≡ true) a op is fits)

-- P AND V

down_place : List CompletedCall → List CompletedCall
down_place (t ∷ []) = t ∷ []
down_place calls = []

down_fits : (s : Semaphore) (calls : List CompletedCall) (op : Act) → down_call s calls ≡ Some op → is_fitting (use_rule s) (down_place calls) op ≡ true
unfolding down_place
down_fits s [] op is = fits_here s [] (Ticket s.line) op is (ticket_fits s)
down_fits s (t ∷ []) op is =
    fits_here s (t ∷ []) (Await s.count (threshold s (reply_number t.reply))) op is (wait_fits s t (threshold s (reply_number t.reply)) refl)
down_fits s (t ∷ a ∷ rest) op is = cc

down_goes : (s : Semaphore) (calls : List CompletedCall) (c : CompletedCall) → down_call s calls ≡ Some c.op → extend_list (use_rule s) (down_place calls) c ≡ down_place (calls ++ c ∷ [])
unfolding down_place
down_goes s [] c is = after_ticket s c is
down_goes s (t ∷ []) c is = after_wait s t c (threshold s (reply_number t.reply)) is
down_goes s (t ∷ a ∷ rest) c is = cc

down_ends : (s : Semaphore) (calls : List CompletedCall) → down_call s calls ≡ None
    → down_place calls ≡ []
unfolding down_place
down_ends s [] is = refl
down_ends s (t ∷ []) is = cc
down_ends s (t ∷ a ∷ rest) is = refl

down_suits : (may : Act → Type 0) (s : Semaphore) → Suits may (use_rule s) (down_call s)
unfolding down_place
down_suits may s = suits_tracked may (use_rule s) (down_call s) down_place (record {
  starts = refl;
  fits = λ calls op asked is. down_fits s calls op is;
  goes = down_goes s;
  ends = down_ends s;
})

up_fits : (s : Semaphore) (calls : List CompletedCall) (op : Act) → up_call s calls ≡ Some op → is_fitting (use_rule s) [] op ≡ true
up_fits s [] op is = fits_here s [] (Advance s.count) op is (advance_fits s)
up_fits s (v ∷ rest) op is = cc

up_goes : (s : Semaphore) (calls : List CompletedCall) (c : CompletedCall) → up_call s calls ≡ Some c.op → extend_list (use_rule s) [] c ≡ []
up_goes s [] c is = after_advance s c is
up_goes s (v ∷ rest) c is = cc

up_suits : (may : Act → Type 0) (s : Semaphore) → Suits may (use_rule s) (up_call s)
up_suits may s = suits_tracked may (use_rule s) (up_call s) (λ calls. []) (record {
  starts = refl;
  fits = λ calls op asked is. up_fits s calls op is;
  goes = up_goes s;
  ends = λ calls is. refl;
})

-- P ON TWO SEMAPHORES, SEEN FROM THE COMMON ONE

one_less : (n i : ℕ) → i ≡ 1 → n ≡ n + 1 - i
one_less n i is = omega arith

common_fits : (c one other : Semaphore) → AreThree c one other → (calls : List CompletedCall) (op : Act) → down_both_call c one other calls ≡ Some op
    → is_fitting (use_rule c) (down_place calls) op ≡ true
unfolding down_place
common_fits c one other three [] op is = fits_here c [] (Ticket c.line) op is (ticket_fits c)
common_fits c one other three (t ∷ []) op is =
    fits_here c (t ∷ []) (Await c.count (reply_number t.reply)) op is (wait_fits c t (reply_number t.reply) (one_less (reply_number t.reply) c.initial three.initial))
common_fits c one other three (t ∷ a ∷ []) op is = fits_aside c [] (Ticket one.line) op is (apart_back c one three.first).lines
common_fits c one other three (t ∷ a ∷ r ∷ []) op is = fits_aside c [] (Ticket other.line) op is (apart_back c other three.second).lines
common_fits c one other three (t ∷ a ∷ r ∷ s ∷ []) op is = fits_here c [] (Advance c.count) op is (advance_fits c)
common_fits c one other three (t ∷ a ∷ r ∷ s ∷ v ∷ []) op is = fits_aside c [] (Await one.count (threshold one (reply_number r.reply))) op is (apart_back c one three.first).counts
common_fits c one other three (t ∷ a ∷ r ∷ s ∷ v ∷ b ∷ []) op is = fits_aside c [] (Await other.count (threshold other (reply_number s.reply))) op is (apart_back c other three.second).counts
common_fits c one other three (t ∷ a ∷ r ∷ s ∷ v ∷ b ∷ d ∷ rest) op is = cc

common_goes : (c one other : Semaphore) → AreThree c one other → (calls : List CompletedCall) (x : CompletedCall) → down_both_call c one other calls ≡ Some x.op
    → extend_list (use_rule c) (down_place calls) x ≡ down_place (calls ++ x ∷ [])
unfolding down_place
common_goes c one other three [] x is = after_ticket c x is
common_goes c one other three (t ∷ []) x is = after_wait c t x (reply_number t.reply) is
common_goes c one other three (t ∷ a ∷ []) x is = after_aside c [] (Ticket one.line) x is (apart_back c one three.first).lines
common_goes c one other three (t ∷ a ∷ r ∷ []) x is = after_aside c [] (Ticket other.line) x is (apart_back c other three.second).lines
common_goes c one other three (t ∷ a ∷ r ∷ s ∷ []) x is = after_advance c x is
common_goes c one other three (t ∷ a ∷ r ∷ s ∷ v ∷ []) x is = after_aside c [] (Await one.count (threshold one (reply_number r.reply))) x is (apart_back c one three.first).counts
common_goes c one other three (t ∷ a ∷ r ∷ s ∷ v ∷ b ∷ []) x is = after_aside c [] (Await other.count (threshold other (reply_number s.reply))) x is (apart_back c other three.second).counts
common_goes c one other three (t ∷ a ∷ r ∷ s ∷ v ∷ b ∷ d ∷ rest) x is = cc

common_ends : (c one other : Semaphore) (calls : List CompletedCall) → down_both_call c one other calls ≡ None → down_place calls ≡ []
unfolding down_place
common_ends c one other [] is = refl
common_ends c one other (t ∷ []) is = cc
common_ends c one other (t ∷ a ∷ rest) is = refl

common_suits : (may : Act → Type 0) (c one other : Semaphore) → AreThree c one other → Suits may (use_rule c) (down_both_call c one other)
unfolding down_place
common_suits may c one other three = suits_tracked may (use_rule c) (down_both_call c one other) down_place (record {
  starts = refl;
  fits = λ calls op asked is. common_fits c one other three calls op is;
  goes = common_goes c one other three;
  ends = common_ends c one other;
})

-- FROM THE FIRST OF THE TWO

one_place : List CompletedCall → List CompletedCall
one_place (t ∷ a ∷ r ∷ []) = r ∷ []
one_place (t ∷ a ∷ r ∷ s ∷ []) = r ∷ []
one_place (t ∷ a ∷ r ∷ s ∷ v ∷ []) = r ∷ []
one_place calls = []

one_fits : (c one other : Semaphore) → AreThree c one other → (calls : List CompletedCall) (op : Act) → down_both_call c one other calls ≡ Some op
    → is_fitting (use_rule one) (one_place calls) op ≡ true
unfolding one_place
one_fits c one other three [] op is = fits_aside one [] (Ticket c.line) op is three.first.lines
one_fits c one other three (t ∷ []) op is = fits_aside one [] (Await c.count (reply_number t.reply)) op is three.first.counts
one_fits c one other three (t ∷ a ∷ []) op is = fits_here one [] (Ticket one.line) op is (ticket_fits one)
one_fits c one other three (t ∷ a ∷ r ∷ []) op is = fits_aside one (r ∷ []) (Ticket other.line) op is (apart_back one other three.pair).lines
one_fits c one other three (t ∷ a ∷ r ∷ s ∷ []) op is = fits_aside one (r ∷ []) (Advance c.count) op is three.first.counts
one_fits c one other three (t ∷ a ∷ r ∷ s ∷ v ∷ []) op is =
    fits_here one (r ∷ []) (Await one.count (threshold one (reply_number r.reply))) op is (wait_fits one r (threshold one (reply_number r.reply)) refl)
one_fits c one other three (t ∷ a ∷ r ∷ s ∷ v ∷ b ∷ []) op is = fits_aside one [] (Await other.count (threshold other (reply_number s.reply))) op is (apart_back one other three.pair).counts
one_fits c one other three (t ∷ a ∷ r ∷ s ∷ v ∷ b ∷ d ∷ rest) op is = cc

one_goes : (c one other : Semaphore) → AreThree c one other → (calls : List CompletedCall) (x : CompletedCall) → down_both_call c one other calls ≡ Some x.op
    → extend_list (use_rule one) (one_place calls) x ≡ one_place (calls ++ x ∷ [])
unfolding one_place
one_goes c one other three [] x is = after_aside one [] (Ticket c.line) x is three.first.lines
one_goes c one other three (t ∷ []) x is = after_aside one [] (Await c.count (reply_number t.reply)) x is three.first.counts
one_goes c one other three (t ∷ a ∷ []) x is = after_ticket one x is
one_goes c one other three (t ∷ a ∷ r ∷ []) x is = after_aside one (r ∷ []) (Ticket other.line) x is (apart_back one other three.pair).lines
one_goes c one other three (t ∷ a ∷ r ∷ s ∷ []) x is = after_aside one (r ∷ []) (Advance c.count) x is three.first.counts
one_goes c one other three (t ∷ a ∷ r ∷ s ∷ v ∷ []) x is = after_wait one r x (threshold one (reply_number r.reply)) is
one_goes c one other three (t ∷ a ∷ r ∷ s ∷ v ∷ b ∷ []) x is = after_aside one [] (Await other.count (threshold other (reply_number s.reply))) x is (apart_back one other three.pair).counts
one_goes c one other three (t ∷ a ∷ r ∷ s ∷ v ∷ b ∷ d ∷ rest) x is = cc

one_ends : (c one other : Semaphore) (calls : List CompletedCall) → down_both_call c one other calls ≡ None → one_place calls ≡ []
unfolding one_place
one_ends c one other [] is = refl
one_ends c one other (t ∷ []) is = refl
one_ends c one other (t ∷ a ∷ []) is = refl
one_ends c one other (t ∷ a ∷ r ∷ []) is = cc
one_ends c one other (t ∷ a ∷ r ∷ s ∷ []) is = cc
one_ends c one other (t ∷ a ∷ r ∷ s ∷ v ∷ []) is = cc
one_ends c one other (t ∷ a ∷ r ∷ s ∷ v ∷ b ∷ rest) is = refl

one_suits : (may : Act → Type 0) (c one other : Semaphore) → AreThree c one other → Suits may (use_rule one) (down_both_call c one other)
unfolding one_place
one_suits may c one other three = suits_tracked may (use_rule one) (down_both_call c one other) one_place (record {
  starts = refl;
  fits = λ calls op asked is. one_fits c one other three calls op is;
  goes = one_goes c one other three;
  ends = one_ends c one other;
})

-- FROM THE SECOND

other_place : List CompletedCall → List CompletedCall
other_place (t ∷ a ∷ r ∷ s ∷ []) = s ∷ []
other_place (t ∷ a ∷ r ∷ s ∷ v ∷ []) = s ∷ []
other_place (t ∷ a ∷ r ∷ s ∷ v ∷ b ∷ []) = s ∷ []
other_place calls = []

other_fits : (c one other : Semaphore) → AreThree c one other → (calls : List CompletedCall) (op : Act) → down_both_call c one other calls ≡ Some op
    → is_fitting (use_rule other) (other_place calls) op ≡ true
unfolding other_place
other_fits c one other three [] op is = fits_aside other [] (Ticket c.line) op is three.second.lines
other_fits c one other three (t ∷ []) op is = fits_aside other [] (Await c.count (reply_number t.reply)) op is three.second.counts
other_fits c one other three (t ∷ a ∷ []) op is = fits_aside other [] (Ticket one.line) op is three.pair.lines
other_fits c one other three (t ∷ a ∷ r ∷ []) op is = fits_here other [] (Ticket other.line) op is (ticket_fits other)
other_fits c one other three (t ∷ a ∷ r ∷ s ∷ []) op is = fits_aside other (s ∷ []) (Advance c.count) op is three.second.counts
other_fits c one other three (t ∷ a ∷ r ∷ s ∷ v ∷ []) op is = fits_aside other (s ∷ []) (Await one.count (threshold one (reply_number r.reply))) op is three.pair.counts
other_fits c one other three (t ∷ a ∷ r ∷ s ∷ v ∷ b ∷ []) op is =
    fits_here other (s ∷ []) (Await other.count (threshold other (reply_number s.reply))) op is (wait_fits other s (threshold other (reply_number s.reply)) refl)
other_fits c one other three (t ∷ a ∷ r ∷ s ∷ v ∷ b ∷ d ∷ rest) op is = cc

other_goes : (c one other : Semaphore) → AreThree c one other → (calls : List CompletedCall) (x : CompletedCall) → down_both_call c one other calls ≡ Some x.op
    → extend_list (use_rule other) (other_place calls) x ≡ other_place (calls ++ x ∷ [])
unfolding other_place
other_goes c one other three [] x is = after_aside other [] (Ticket c.line) x is three.second.lines
other_goes c one other three (t ∷ []) x is = after_aside other [] (Await c.count (reply_number t.reply)) x is three.second.counts
other_goes c one other three (t ∷ a ∷ []) x is = after_aside other [] (Ticket one.line) x is three.pair.lines
other_goes c one other three (t ∷ a ∷ r ∷ []) x is = after_ticket other x is
other_goes c one other three (t ∷ a ∷ r ∷ s ∷ []) x is = after_aside other (s ∷ []) (Advance c.count) x is three.second.counts
other_goes c one other three (t ∷ a ∷ r ∷ s ∷ v ∷ []) x is = after_aside other (s ∷ []) (Await one.count (threshold one (reply_number r.reply))) x is three.pair.counts
other_goes c one other three (t ∷ a ∷ r ∷ s ∷ v ∷ b ∷ []) x is = after_wait other s x (threshold other (reply_number s.reply)) is
other_goes c one other three (t ∷ a ∷ r ∷ s ∷ v ∷ b ∷ d ∷ rest) x is = cc

other_ends : (c one other : Semaphore) (calls : List CompletedCall) → down_both_call c one other calls ≡ None → other_place calls ≡ []
unfolding other_place
other_ends c one other [] is = refl
other_ends c one other (t ∷ []) is = refl
other_ends c one other (t ∷ a ∷ []) is = refl
other_ends c one other (t ∷ a ∷ r ∷ []) is = refl
other_ends c one other (t ∷ a ∷ r ∷ s ∷ []) is = cc
other_ends c one other (t ∷ a ∷ r ∷ s ∷ v ∷ []) is = cc
other_ends c one other (t ∷ a ∷ r ∷ s ∷ v ∷ b ∷ []) is = cc
other_ends c one other (t ∷ a ∷ r ∷ s ∷ v ∷ b ∷ d ∷ rest) is = refl

other_suits : (may : Act → Type 0) (c one other : Semaphore) → AreThree c one other → Suits may (use_rule other) (down_both_call c one other)
unfolding other_place
other_suits may c one other three = suits_tracked may (use_rule other) (down_both_call c one other) other_place (record {
  starts = refl;
  fits = λ calls op asked is. other_fits c one other three calls op is;
  goes = other_goes c one other three;
  ends = other_ends c one other;
})

-- EACH COMMAND

three_suits : (may : Act → Type 0) (s c one other : Semaphore) → AreThree c one other → (c ≡ s) ⊎ (one ≡ s) ⊎ (other ≡ s) → Suits may (use_rule s) (down_both_call c one other)
three_suits may s c one other three (inl is) = subst (λ u. Suits may (use_rule u) (down_both_call c one other)) is (common_suits may c one other three)
three_suits may s c one other three (inr (inl is)) = subst (λ u. Suits may (use_rule u) (down_both_call c one other)) is (one_suits may c one other three)
three_suits may s c one other three (inr (inr is)) = subst (λ u. Suits may (use_rule u) (down_both_call c one other)) is (other_suits may c one other three)

own_suits : (may : Act → Type 0) (s : Semaphore) (last : ℕ) (c : Command) → IsOfSemaphore s c → Suits may (use_rule s) (command_call last c)
own_suits may s last (Down u) is = subst (λ v. Suits may (use_rule s) (down_call v)) (sym is) (down_suits may s)
own_suits may s last (Up u) is = subst (λ v. Suits may (use_rule s) (up_call v)) (sym is) (up_suits may s)
own_suits may s last (DownBoth common one other) is = three_suits may s common one other is.0 is.1
own_suits may s last c is = absurd is

semaphore_suits : (may : Act → Type 0) (s : Semaphore) (last : ℕ) (c : Command) → UsesSemaphore s c → Suits may (use_rule s) (command_call last c)
semaphore_suits may s last c (inl own) = own_suits may s last c own
semaphore_suits may s last c (inr apart) = suits_apart may (use_rule s) (command_call last c) (apart last)

pub semaphores_follow : SemaphoresAreFollowed
semaphores_follow t s programs h acc each runs =
    programs_follow t (use_rules s) (UsesSemaphore s) programs h acc (λ w last c is. semaphore_suits _ s last c is) each runs
