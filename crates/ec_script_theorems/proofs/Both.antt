-- P on two semaphores suits the rule of `both`.
use Rattle.std.proofs.Common.{◌≡◌, ℕ, Bool, true, false, not, ◌&&◌, ◌==◌, List, [], ◌∷◌, ◌++◌, Option, Some, None, refl, ◌∙◌, ap, subst, inl, inr}
use Rattle.std.proofs.lemmas.Bool.{and_from}
use Rattle.ec_core.specs.declared.act.Act.{Act}
use Rattle.ec_core.specs.declared.act.Act.TheVariants.{Advance, Await, Ticket}
use Rattle.ec_core.specs.Following.{CompletedCall, extend_list}
use Rattle.ec_core.specs.CallLists.{reply_number, is_due}
use Rattle.ec_core.proofs.shared.Following.{is_act-same}
use Rattle.ec_core.proofs.shared.FittingCalls.{is_fitting}
use Rattle.ec_semaphore.specs.Shapes.{Semaphore}
use Rattle.ec_semaphore.specs.Uses.{threshold, is_on}
use Rattle.ec_semaphore.specs.Both.{down_both_call, critical_section_call, sequencer_number, is_choice, both_rule, both_rules}
use Rattle.ec_machine.specs.declared.command.Command.{Command, DownBoth}
use Rattle.ec_machine.specs.Runs.{command_call}
use Rattle.ec_script_theorems.specs.Uses.{AreThree, IsOfBoth, UsesBoth}
use Rattle.ec_script_theorems.specs.Laws.{BothIsFollowed}
use Rattle.ec_script_theorems.proofs.Suiting.{AreAsked, Suits, suits_tracked, suits_apart, fitting, unconcerned, extended_on, extended_off, at_op}
use Rattle.ec_script_theorems.proofs.Semaphores.{apart_back, on_line}
use Rattle.ec_script_theorems.proofs.Workers.{programs_follow}

-- the calls of the critical section that a P on two semaphores is in
both_place : List CompletedCall → List CompletedCall
both_place (t ∷ []) = t ∷ []
both_place (t ∷ a ∷ []) = t ∷ a ∷ []
both_place (t ∷ a ∷ r ∷ []) = t ∷ a ∷ r ∷ []
both_place (t ∷ a ∷ r ∷ s ∷ []) = t ∷ a ∷ r ∷ s ∷ []
both_place calls = []

-- the act is the next one of the critical section, and its sequencer may be chosen
fits_both : (c : Semaphore) (lines : ℕ → Bool) (b : List CompletedCall) (a op : Act) → Some a ≡ Some op → critical_section_call c (sequencer_number a) (sequencer_number a) b ≡ Some a → is_choice lines b a ≡ true
    → is_fitting (both_rule c lines) b op ≡ true
fits_both c lines b a op is there choice =
    fitting (both_rule c lines) b op (at_op (λ x. (both_rule c lines).fits b x ≡ true) a op is
    (and_from (is_due (critical_section_call c (sequencer_number a) (sequencer_number a) b) a) (is_choice lines b a) (ap (λ (o : Option Act). is_due o a) there ∙ is_act-same a) choice))

fits_beside : (c : Semaphore) (lines : ℕ → Bool) (a op : Act) → Some a ≡ Some op → is_on c a ≡ false → is_fitting (both_rule c lines) [] op ≡ true
fits_beside c lines a op is off = unconcerned (both_rule c lines) [] op (at_op (λ x. is_on c x ≡ false) a op is off)

differs : (lines : ℕ → Bool) (one other : Semaphore) (op : Act) → Some (Ticket one.line) ≡ Some op → lines other.line ≡ true → (one.line == other.line) ≡ false
    → (lines other.line && not (sequencer_number op == other.line)) ≡ true
differs lines one other op is known apart =
    and_from (lines other.line) (not (sequencer_number op == other.line)) known
    (at_op (λ x. not (sequencer_number x == other.line)
    ≡ true) (Ticket one.line) op is (ap not apart))

module _ (c one other : Semaphore) (lines : ℕ → Bool) (three : AreThree c one other) (first : lines one.line ≡ true) (second : lines other.line ≡ true) where
  both_fits : (calls : List CompletedCall) (op : Act) → AreAsked (down_both_call c one other) [] calls → down_both_call c one other calls ≡ Some op
      → is_fitting (both_rule c lines) (both_place calls) op ≡ true
  unfolding both_place
  both_fits [] op asked is = fits_both c lines [] (Ticket c.line) op is refl refl
  both_fits (t ∷ []) op asked is = fits_both c lines (t ∷ []) (Await c.count (reply_number t.reply)) op is refl refl
  both_fits (t ∷ a ∷ []) op asked is = fits_both c lines (t ∷ a ∷ []) (Ticket one.line) op is refl first
  both_fits (t ∷ a ∷ r ∷ []) op asked is =
      fits_both c lines (t ∷ a ∷ r ∷ []) (Ticket other.line) op is refl (differs lines one other r.op asked.1.1.0 second three.pair.lines)
  both_fits (t ∷ a ∷ r ∷ s ∷ []) op asked is = fits_both c lines (t ∷ a ∷ r ∷ s ∷ []) (Advance c.count) op is refl refl
  both_fits (t ∷ a ∷ r ∷ s ∷ v ∷ []) op asked is = fits_beside c lines (Await one.count (threshold one (reply_number r.reply))) op is (apart_back c one three.first).counts
  both_fits (t ∷ a ∷ r ∷ s ∷ v ∷ b ∷ []) op asked is = fits_beside c lines (Await other.count (threshold other (reply_number s.reply))) op is (apart_back c other three.second).counts
  both_fits (t ∷ a ∷ r ∷ s ∷ v ∷ b ∷ d ∷ rest) op asked is = cc

  both_goes : (calls : List CompletedCall) (x : CompletedCall) → down_both_call c one other calls ≡ Some x.op → extend_list (both_rule c lines) (both_place calls) x ≡ both_place (calls ++ x ∷ [])
  unfolding both_place
  both_goes [] x is = extended_on (both_rule c lines) [] x (at_op (λ z. is_on c z ≡ true) (Ticket c.line) x.op is (on_line c))
  both_goes (t ∷ []) x is = extended_on (both_rule c lines) (t ∷ []) x refl
  both_goes (t ∷ a ∷ []) x is = extended_on (both_rule c lines) (t ∷ a ∷ []) x refl
  both_goes (t ∷ a ∷ r ∷ []) x is = extended_on (both_rule c lines) (t ∷ a ∷ r ∷ []) x refl
  both_goes (t ∷ a ∷ r ∷ s ∷ []) x is = extended_on (both_rule c lines) (t ∷ a ∷ r ∷ s ∷ []) x refl
  both_goes (t ∷ a ∷ r ∷ s ∷ v ∷ []) x is =
      extended_off (both_rule c lines) [] x (at_op (λ z. is_on c z ≡ false) (Await one.count (threshold one (reply_number r.reply))) x.op is (apart_back c one three.first).counts)
  both_goes (t ∷ a ∷ r ∷ s ∷ v ∷ b ∷ []) x is =
      extended_off (both_rule c lines) [] x (at_op (λ z. is_on c z ≡ false) (Await other.count (threshold other (reply_number s.reply))) x.op is (apart_back c other three.second).counts)
  both_goes (t ∷ a ∷ r ∷ s ∷ v ∷ b ∷ d ∷ rest) x is = cc

  both_ends : (calls : List CompletedCall) → down_both_call c one other calls ≡ None
      → both_place calls ≡ []
  unfolding both_place
  both_ends [] is = refl
  both_ends (t ∷ []) is = cc
  both_ends (t ∷ a ∷ []) is = cc
  both_ends (t ∷ a ∷ r ∷ []) is = cc
  both_ends (t ∷ a ∷ r ∷ s ∷ []) is = cc
  both_ends (t ∷ a ∷ r ∷ s ∷ v ∷ rest) is = refl

  both_suits : (may : Act → Type 0) → Suits may (both_rule c lines) (down_both_call c one other)
  unfolding both_place
  both_suits may = suits_tracked may (both_rule c lines) (down_both_call c one other) both_place (record {
    starts = refl;
    fits = both_fits;
    goes = both_goes;
    ends = both_ends;
  })

own_suits : (may : Act → Type 0) (s : Semaphore) (lines : ℕ → Bool) (last : ℕ) (c : Command) → IsOfBoth s lines c → Suits may (both_rule s lines) (command_call last c)
own_suits may s lines last (DownBoth common one other) is =
    subst (λ u. Suits may (both_rule u lines) (down_both_call common one other)) is.0 (both_suits common one other lines is.1 is.2 is.3 may)
own_suits may s lines last c is = absurd is

command_suits : (may : Act → Type 0) (s : Semaphore) (lines : ℕ → Bool) (last : ℕ) (c : Command) → UsesBoth s lines c → Suits may (both_rule s lines) (command_call last c)
command_suits may s lines last c (inl own) = own_suits may s lines last c own
command_suits may s lines last c (inr apart) = suits_apart may (both_rule s lines) (command_call last c) (apart last)

pub both_follows : BothIsFollowed
both_follows t s lines programs h acc each runs =
    programs_follow t (both_rules s lines) (UsesBoth s lines) programs h acc (λ w last c is. command_suits _ s lines last c is) each runs
