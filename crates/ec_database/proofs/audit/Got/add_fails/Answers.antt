use Rattle.std.proofs.Common.{◌≡◌, ◌<◌, ◌∷◌, ◌++◌, refl, arith, ap, sym, subst, ◌∙◌}
use Rattle.std.specs.Prelude.{option_to_list}
use Rattle.ec_database.specs.Following.{writes}
use Rattle.ec_database.specs.Tries.{ended_at, accepted_tries}
use Rattle.ec_database.specs.Auditing.{completed_call, rows_after, try_ended}
use Rattle.ec_database.proofs.Getting.{held_none, held_some, ended_is}
use Rattle.ec_database.proofs.Listing.{next_tries, same_tries, not_err}
use Rattle.ec_database.proofs.audit.Got.add_fails.Goals as goal

pub returns-in_default-clause-held : goal.returns-in_default-clause-held
returns-in_default-clause-held c ok past reads held =
    let d = c.args.lists.now.shape.now in
    let writers = writes c.args.lists.now.setup.now d in
    held_none d writers c.args.self.now.rows c.args.entry.now past c.args.kept.now c.args.op.now
    reads.op (sym c.completed_call.ensures ∙ c.in_default.is) held

pub returns-in_default-clause-tries : goal.returns-in_default-clause-tries
returns-in_default-clause-tries c ok past reads held was =
    let d = c.args.lists.now.shape.now in
    let writers = writes c.args.lists.now.setup.now d in
    let x = c.args.entry.now in
    same_tries d writers x past c.args.tries.now.list c.args.kept.now
    (ap (λ op. completed_call d (writers x.worker) c.args.kept.now op x) (sym reads.op) ∙ sym c.completed_call.ensures ∙ c.in_default.is) was

pub returns-clause-tries : goal.returns-clause-tries
returns-clause-tries c ok past reads held was =
    let d = c.args.lists.now.shape.now in
    let writers = writes c.args.lists.now.setup.now d in
    let x = c.args.entry.now in
    let call = c.in-Some.call in
    let cells = c.cells-cells.ensures.value in
    let added = not_err c.add.result (sym c.is_err.ensures.value ∙ ok) c.add.ensures.added in
    ended_is d writers c.args.self.now.rows c.keep.new.self.rows x past c.args.kept.now c.args.op.now call
    (λ o. o ≡ ended_at d writers x past → c.add.new.tries.list ≡ accepted_tries d writers (x ∷ past))
    (subst (λ n. n < 16) c.get-reader.ensures.value c.get-reader.ensures.small)
    reads.kept reads.op (sym c.completed_call.ensures ∙ c.in-Some.is)
    (λ row is. c.keep.ensures row is ∙ ap (λ n. rows_after n c.args.self.now.rows row call) cells)
    (λ row is. next_tries d writers x past c.args.tries.now.list c.add.new.tries.list (try_ended d.cells row call) was
    (added row is ∙ ap (λ n. c.args.tries.now.list ++ option_to_list (try_ended n row call)) cells))
    held refl

pub returns-clause-held : goal.returns-clause-held
returns-clause-held c ok past reads held =
    let d = c.args.lists.now.shape.now in
    let writers = writes c.args.lists.now.setup.now d in
    let x = c.args.entry.now in
    let call = c.in-Some.call in
    let cells = c.cells-cells.ensures.value in
    held_some d writers c.args.self.now.rows c.keep.new.self.rows x past c.args.kept.now c.args.op.now call
    (let room = c.cells-cells.ensures.room in omega arith)
    (subst (λ n. n < 16) c.get-reader.ensures.value c.get-reader.ensures.small)
    reads.kept reads.op (sym c.completed_call.ensures ∙ c.in-Some.is)
    (λ row is. c.keep.ensures row is ∙ ap (λ n. rows_after n c.args.self.now.rows row call) cells)
    held
