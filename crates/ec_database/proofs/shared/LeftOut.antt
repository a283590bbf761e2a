-- The audit of a database may leave out the entries whose calls are not on it.
use Rattle.std.proofs.Common.{◌≡◌, ℕ, Bool, true, false, ◌||◌, List, ◌∷◌, ◌++◌, None, cond, refl, ap, sym, subst, ◌∙◌, append-nil}
use Rattle.std.specs.Option.{option_to_list}
use Rattle.ec_core.specs.declared.act.Reply.TheVariants.{Pending}
use Rattle.ec_core.specs.Following.{CompletedCall, block}
use Rattle.ec_core.specs.declared.act.Entry.{Entry}
use Rattle.ec_core.specs.JoinedLists.{SpeaksOf}
use Rattle.ec_core.proofs.shared.Following.{op_at, block_pending}
use Rattle.ec_core.proofs.shared.Tracking.{tracked_off, tracked_going, going, by_going}
use Rattle.ec_database.specs.Auditing.{RepresentsVersions, HasRow, HoldsGot, got_so_far, OthersMayBeLeftOut, GoesMayBeLeftOut}
use Rattle.ec_database.specs.Tries.{ended_at, ended_by, accepted_tries}
use Rattle.ec_database.specs.Following.{is_on, write_rule, try_rule, writes, database_rules}
use Rattle.ec_database.specs.SnapshotPhases.{list_progress}
use Rattle.ec_database.specs.Shapes.{Database}
use Rattle.ec_database.proofs.Getting.{held_off}
use Rattle.ec_database.proofs.Listing.{tries_off}

pub speaks : (d : Database) (is_writer : Bool) → SpeaksOf (cond is_writer (write_rule d) (try_rule d)) (is_on d)
speaks d true = λ calls op. refl
speaks d false = λ calls op. refl

pub versioning_off : OthersMayBeLeftOut
versioning_off a x past off s =
    let writers = writes a.setup a.shape in
    record {
      tracked = tracked_off (database_rules a.setup a.shape) list_progress (is_on a.shape) a.tracked x past (λ w. speaks a.shape (writers w)) off s.tracked;
      held = λ ok. held_off a.shape writers a.rows x past off (s.held ok);
      list = λ ok. s.list ok ∙ sym (tries_off a.shape writers x past off);
    }

-- nor does it need a go that ends no call
held_going : (d : Database) (writers : ℕ → Bool) (rows : List (List ℕ)) (w : ℕ) (past : List Entry) → HoldsGot d writers rows past → HoldsGot d writers rows (going w ∷ past)
held_going d writers rows w past held = λ v lt role.
    (let P : List CompletedCall → Type 0 = λ calls. HasRow rows v (got_so_far calls) in
    subst P (sym (block_pending (try_rule d) v (going w) past refl)) (held v lt role))

pub none_going : (d : Database) (writers : ℕ → Bool) (w : ℕ) (past : List Entry) → ended_at d writers (going w) past ≡ None
none_going d writers w past =
    let ended = ended_by d w (block (try_rule d) w past) (record { op = op_at (going w) past; reply = Pending }) in
    elim (writers w) as (λ b. cond (b || true) None ended ≡ None) [ true ↦ refl | false ↦ refl ]

tries_going : (d : Database) (writers : ℕ → Bool) (w : ℕ) (past : List Entry) → accepted_tries d writers (going w ∷ past) ≡ accepted_tries d writers past
unfolding accepted_tries
tries_going d writers w past = ap (λ o. accepted_tries d writers past ++ option_to_list o) (none_going d writers w past) ∙ append-nil (accepted_tries d writers past)

pub versioning_going : GoesMayBeLeftOut
versioning_going a x past on s =
    let writers = writes a.setup a.shape in
    by_going (λ y. RepresentsVersions a (y ∷ past)) (λ w. record {
      tracked = tracked_going (database_rules a.setup a.shape) list_progress a.tracked w past s.tracked;
      held = λ ok. held_going a.shape writers a.rows w past (s.held ok);
      list = λ ok. s.list ok ∙ sym (tries_going a.shape writers w past);
    }) x on
