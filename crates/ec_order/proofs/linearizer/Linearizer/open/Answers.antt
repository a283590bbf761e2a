use Rattle.std.proofs.Common.{List, [], Bool, false, sym, subst}
use Rattle.ec_core.specs.declared.act.Entry.{Entry}
use Rattle.ec_order.specs.declared.linearized_entry.LinearizedEntry.{LinearizedEntry}
use Rattle.ec_order.specs.Linearizer.{IsLinearizerModel}
use Rattle.ec_order.proofs.Timing.{kept, timed_start}
use Rattle.ec_order.proofs.linearizer.Linearizer.open.Goals as goal

pub returns-clause-first : goal.returns-clause-first
returns-clause-first c = λ out_of_memory acc.
    let t = c.args.setup.now in
    let ks = c.in_ok-none.field-0 in
    let with_marks = λ (ms : List Bool) (xs : List Entry) (ds : List LinearizedEntry). IsLinearizerModel (kept t c.new.result ks ms xs ds false) [] in
    subst (λ ms. with_marks ms c.in_ok-open.field-0 c.in_ok-open-2.field-0) (sym c.new-2.ensures)
    (subst (λ xs. with_marks [] xs c.in_ok-open-2.field-0) (sym c.in_ok-open.ensures)
    (subst (λ ds. with_marks [] [] ds) (sym c.in_ok-open-2.ensures) (timed_start t c.new.result ks false (c.new.ensures t) c.in_ok-none.ensures)))
