-- The audit of a buffer may leave out the entries whose calls are not on it.
use Rattle.std.proofs.Common.{◌≡◌, ℕ, ◌-◌, Bool, true, false, List, ◌∷◌, Option, Some, None, cond, refl, ap, sym, ◌∙◌}
use Rattle.ec_count.specs.Tables.{may_take}
use Rattle.ec_core.specs.declared.act.Act.{Act}
use Rattle.ec_core.specs.declared.act.Act.TheVariants.{Advance, Read, Await, Go, Ticket, Put, Get, Hand}
use Rattle.ec_core.specs.declared.act.Entry.{Entry}
use Rattle.ec_core.specs.Calls.{CallSoFar, under_way}
use Rattle.ec_core.specs.Following.{opening_act}
use Rattle.ec_core.proofs.shared.Following.{op_at}
use Rattle.ec_core.specs.JoinedLists.{SpeaksOf}
use Rattle.ec_core.proofs.shared.Tracking.{tracked_off, tracked_going, going, by_going}
use Rattle.ec_buffer.specs.Auditing.{RepresentsDeliveries, OthersMayBeLeftOut, GoesMayBeLeftOut}
use Rattle.ec_buffer.specs.Collecting.{cell_index, put_place, get_place, writers_after, list_after, writers_of, collected}
use Rattle.ec_buffer.specs.Follows.{is_on, is_cell, produce_rule, consume_rule, buffer_rules}
use Rattle.ec_buffer.specs.Keeping.{list_progress}
use Rattle.ec_buffer.specs.Shapes.{Buffer}

no_place : (b : Buffer) (y : ℕ) → is_cell b y ≡ false → cell_index b y ≡ None
no_place b y h = ap (λ z. cond z (Some (y - b.first_cell)) None) h

no_put : (b : Buffer) (act : Act) (o : Option CallSoFar) → is_on b (opening_act act o) ≡ false → put_place b act ≡ None
no_put b (Put y v) o h = no_place b y h
no_put b (Advance e) o h = refl
no_put b (Await e v) o h = refl
no_put b (Read e) o h = refl
no_put b Go o h = refl
no_put b (Ticket q) o h = refl
no_put b (Get y) o h = refl
no_put b (Hand e w) o h = refl

no_get : (b : Buffer) (act : Act) (o : Option CallSoFar) → is_on b (opening_act act o) ≡ false → get_place b act ≡ None
no_get b (Get y) o h = no_place b y h
no_get b (Put y v) o h = refl
no_get b (Advance e) o h = refl
no_get b (Await e v) o h = refl
no_get b (Read e) o h = refl
no_get b Go o h = refl
no_get b (Ticket q) o h = refl
no_get b (Hand e w) o h = refl

writers_off : (b : Buffer) (x : Entry) (past : List Entry) → is_on b (op_at x past) ≡ false → writers_of b (x ∷ past) ≡ writers_of b past
unfolding writers_of
writers_off b x past off = ap (λ o. writers_after o x.worker (writers_of b past)) (no_put b x.act (under_way x.worker past) off)

collected_off : (b : Buffer) (x : Entry) (past : List Entry) → is_on b (op_at x past) ≡ false → collected b (x ∷ past) ≡ collected b past
unfolding collected
collected_off b x past off = ap (λ o. list_after o x (writers_of b past) (collected b past)) (no_get b x.act (under_way x.worker past) off)

pub speaks : (b : Buffer) (produces : Bool) → SpeaksOf (cond produces (produce_rule b) (consume_rule b)) (is_on b)
speaks b true = λ calls op. refl
speaks b false = λ calls op. refl

pub delivering_off : OthersMayBeLeftOut
delivering_off a x past off s = record {
  tracked = tracked_off (buffer_rules a.setup a.shape) list_progress (is_on a.shape) a.tracked x past (λ w. speaks a.shape (may_take a.setup a.shape.put_seq w)) off s.tracked;
  writers = s.writers ∙ sym (writers_off a.shape x past off);
  list = λ ok. s.list ok ∙ sym (collected_off a.shape x past off);
}

-- nor does it need a go that ends no call
writers_going : (b : Buffer) (w : ℕ) (past : List Entry) → writers_of b (going w ∷ past) ≡ writers_of b past
unfolding writers_of
writers_going b w past = refl

collected_going : (b : Buffer) (w : ℕ) (past : List Entry) → collected b (going w ∷ past) ≡ collected b past
unfolding collected
collected_going b w past = refl

pub delivering_going : GoesMayBeLeftOut
delivering_going a x past on s =
    by_going (λ y. RepresentsDeliveries a (y ∷ past)) (λ w. record {
      tracked = tracked_going (buffer_rules a.setup a.shape) list_progress a.tracked w past s.tracked;
      writers = s.writers ∙ sym (writers_going a.shape w past);
      list = λ ok. s.list ok ∙ sym (collected_going a.shape w past);
    }) x on
