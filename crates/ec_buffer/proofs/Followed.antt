-- What is true of a buffer at each moment of a history that follows it.
use Rattle.std.proofs.Common.{◌≡◌, ℕ, Bool, true, false, List, [], ◌∷◌, refl, ap, arith, cond, inl, inr}
use Rattle.ec_count.specs.Tables.{Tables, IsDeclared}
use Rattle.ec_core.specs.declared.act.Act.{Act}
use Rattle.ec_core.specs.declared.act.Entry.{Entry}
use Rattle.ec_core.specs.Counts.{total, issued}
use Rattle.ec_core.specs.Acceptance.{IsAccepted}
use Rattle.ec_core.specs.Following.{CompletedCall, block, Follow}
use Rattle.ec_core.proofs.shared.Following.{op_at, step_told, step_due, off_block}
use Rattle.ec_core.proofs.shared.Queue.{QueuePosition, IsQueue}
use Rattle.ec_buffer.specs.Shapes.{Buffer}
use Rattle.ec_buffer.specs.Follows.{is_on, produce_rule, consume_rule, role_rules}
use Rattle.ec_buffer.proofs.Moves.{puts, gets}
use Rattle.ec_buffer.specs.Shapes.{IsShape}
use Rattle.ec_buffer.proofs.Handing.{seat_of, nobody, put_seat, get_seat, IsHanding, IsStep, quiet_off, quiet_same}
use Rattle.ec_buffer.proofs.Moving.{produce_step, consume_step, position_kept, get_seat_kept}

empty_queue : (seat : ℕ → QueuePosition) → ((w : ℕ) → (seat w).stage ≡ 0) → IsQueue seat 0 0 0
empty_queue seat h = record {
  some = omega arith;
  few = omega arith;
  low = λ w a. (let z : (seat w).stage ≡ 0 = h w in absurd (omega arith));
  high = λ w a. (let z : (seat w).stage ≡ 0 = h w in absurd (omega arith));
  apart = λ v w a b e. (let z : (seat w).stage ≡ 0 = h w in absurd (omega arith));
  inside = λ w a. (let z : (seat w).stage ≡ 0 = h w in absurd (omega arith));
  before = λ w a b. (let z : (seat w).stage ≡ 0 = h w in absurd (omega arith));
  after = λ w a. (let z : (seat w).stage ≡ 0 = h w in absurd (omega arith));
}

if_nobody : (p : Bool) → (cond p (seat_of []) nobody ≡ nobody) × (cond p nobody (seat_of []) ≡ nobody)
if_nobody true = (refl, refl)
if_nobody false = (refl, refl)

no_put : (b : Buffer) (produces : ℕ → Bool) (w : ℕ) → (put_seat b produces [] w).stage ≡ 0
unfolding block
no_put b produces w = ap (λ (z : QueuePosition). z.stage) (if_nobody (produces w)).0

no_get : (b : Buffer) (produces : ℕ → Bool) (w : ℕ) → (get_seat b produces [] w).stage ≡ 0
unfolding block
no_get b produces w = ap (λ (z : QueuePosition). z.stage) (if_nobody (produces w)).1

at_first : (b : Buffer) (produces : ℕ → Bool) → IsHanding b produces []
unfolding total issued puts gets
at_first b produces = record {
  putting = empty_queue (put_seat b produces []) (no_put b produces);
  getting = empty_queue (get_seat b produces []) (no_get b produces);
  put_ready = λ w a. (let z : (put_seat b produces [] w).stage ≡ 0 = no_put b produces w in absurd (omega arith));
  get_ready = λ w a. (let z : (get_seat b produces [] w).stage ≡ 0 = no_get b produces w in absurd (omega arith));
  stock = record { room = omega arith; order = omega arith; held = λ i lt. absurd (omega arith); taken = λ i lt. absurd (omega arith) };
}

pub on_of : (b : Buffer) (p : Bool) (calls : List CompletedCall) (op : Act) (a : Bool) → (cond p (produce_rule b) (consume_rule b)).concerns calls op ≡ a → is_on b op ≡ a
on_of b true calls op a h = h
on_of b false calls op a h = h

pub step : (b : Buffer) (produces : ℕ → Bool) (t : Tables) (x : Entry) (past : List Entry) → IsShape b → IsDeclared t → IsAccepted t (x ∷ past) → Follow (role_rules b produces) (x ∷ past)
    → IsHanding b produces past → IsHanding b produces (x ∷ past)
step b produces t x past shape d acc f before =
    let w = x.worker in
    let op = op_at x past in
    let s : IsStep b produces t x past = record { shape = shape; accepted = acc; before = before } in
    let returned = step_told t x past d acc in
    elim (step_due t (role_rules b produces) x past d acc f) [
      | inl off ↦
          (let no : is_on b op ≡ false = on_of b (produces w) (block (role_rules b produces w) w past) op false off in
          quiet_same b produces t x past op s refl (quiet_off b op no) (position_kept b produces x past (off_block (produce_rule b) x past no)) (get_seat_kept b produces x past (off_block (consume_rule b) x past no)))
      | inr k ↦
          (let on : is_on b op ≡ true = on_of b (produces w) (block (role_rules b produces w) w past) op true k.0 in
          elim (produces w) as (λ p. produces w ≡ p → (cond p (produce_rule b) (consume_rule b)).fits (block (cond p (produce_rule b) (consume_rule b)) w past) op ≡ true → IsHanding b produces (x ∷ past)) [
            | true ↦ λ role due. produce_step b produces t x past (block (produce_rule b) w past) s d role refl on due returned
            | false ↦ λ role due. consume_step b produces t x past (block (consume_rule b) w past) s d role refl on due returned
          ] refl k.1)
    ]

pub handing : (b : Buffer) (produces : ℕ → Bool) (t : Tables) (past : List Entry) → IsShape b → IsDeclared t → IsAccepted t past → Follow (role_rules b produces) past → IsHanding b produces past
handing b produces t [] shape d acc f = at_first b produces
handing b produces t (x ∷ past) shape d acc f = step b produces t x past shape d acc f (handing b produces t past shape d acc.1 f.1)
