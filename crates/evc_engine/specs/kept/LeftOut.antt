-- An audit stays right if it doesn't process entries whose call is not on its group, and goes that
-- complete no call.
use Rattle.std.proofs.Common.{◌≡◌, true, false, List, ◌∷◌, sym, subst, true≢false}
use Rattle.ec_core.specs.declared.act.Entry.{Entry}
use Rattle.ec_core.specs.Calls.{is_intermediate}
use Rattle.ec_core.proofs.shared.Following.{op_at}
use Rattle.ec_buffer.specs.Follows as buffers
use Rattle.ec_buffer.specs.Shapes.{Buffer}
use Rattle.ec_buffer.proofs.shared.LeftOut.{delivering_off, delivering_going}
use Rattle.ec_database.specs.Following as databases
use Rattle.ec_database.specs.Shapes.{Database}
use Rattle.ec_database.proofs.shared.LeftOut.{versioning_off, versioning_going}
use Rattle.ec_semaphore.specs.Shapes.{Semaphore}
use Rattle.ec_semaphore.specs.Uses as semaphores
use Rattle.ec_semaphore.proofs.shared.LeftOut.{counted_off, counted_going, pairing_going}
use Rattle.ec_walk.specs.Walks.{is_on}
use Rattle.evc_engine.specs.declared.walked.Auditing.{Auditing}
use Rattle.evc_engine.specs.declared.walked.Auditing.TheVariants as audits
use Rattle.evc_engine.specs.kept.Walks.{group_of, AuditsOn}

-- an audit stays right after an entry whose call is not on its group
pub audits_off : (start now : Auditing) (x : Entry) (past : List Entry) → is_on (group_of start) (op_at x past) ≡ false → AuditsOn start now past → AuditsOn start now (x ∷ past)
audits_off (audits.Deliveries a) (audits.Deliveries b) x past off represents =
    (represents.0, represents.1, delivering_off b x past (subst (λ (s : Buffer). buffers.is_on s (op_at x past) ≡ false) (sym represents.0) off) represents.2)
audits_off (audits.Versions a) (audits.Versions b) x past off represents =
    (represents.0, represents.1, versioning_off b x past (subst (λ (s : Database). databases.is_on s (op_at x past) ≡ false) (sym represents.0) off) represents.2)
audits_off (audits.Balance a) (audits.Balance b) x past off represents =
    (represents.0, counted_off b x past (subst (λ (s : Semaphore). semaphores.is_on s (op_at x past) ≡ false) (sym represents.0) off) represents.1)
audits_off (audits.Both a) now x past off represents = absurd (true≢false off)
audits_off start now x past off represents = absurd represents

-- an audit stays right after a go that completes no call
pub audits_stay : (start now : Auditing) (x : Entry) (past : List Entry) → is_intermediate x ≡ true → AuditsOn start now past → AuditsOn start now (x ∷ past)
audits_stay (audits.Deliveries a) (audits.Deliveries b) x past on represents = (represents.0, represents.1, delivering_going b x past on represents.2)
audits_stay (audits.Versions a) (audits.Versions b) x past on represents = (represents.0, represents.1, versioning_going b x past on represents.2)
audits_stay (audits.Balance a) (audits.Balance b) x past on represents = (represents.0, counted_going b x past on represents.1)
audits_stay (audits.Both a) (audits.Both b) x past on (balance, pairs, common) =
    ((balance.0, counted_going b.balance x past on balance.1), (pairs.0, pairs.1, pairing_going b.pairs x past on pairs.2), common)
audits_stay start now x past on represents = absurd represents
