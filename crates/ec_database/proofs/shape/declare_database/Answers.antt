use Rattle.std.proofs.Common.{◌≡◌, ◌==◌, Bool, None, ap, sym, ◌∙◌, subst, rules}
use Rattle.ec_count.specs.Roles.{roles_fault}
use Rattle.ec_count.specs.Tables.{Tables}
use Rattle.ec_database.specs.Shapes.{Database, DeclaresDatabase, database_fault, next_database}
use Rattle.ec_database.proofs.Declaring.{declares_next}
use Rattle.ec_database.proofs.shape.declare_database.Goals as goal

pub returns-clause-fits : goal.returns-clause-fits
returns-clause-fits c =
    let t = c.args.setup.now in
    let write = c.args.write.now in
    let read = c.args.read.now in
    let free : database_fault t c.args.n write read ≡ None =
    ap (λ (full : Bool). roles_fault t full write read (c.args.n == 0)) (search rules) ∙ sym c.roles_fault.ensures ∙ c.in_default.is in
    let made = c.add_database.ensures in
    subst (λ (d : Database). DeclaresDatabase d c.add_database.new.setup write read) (sym made.shape)
    (subst (λ (u : Tables). DeclaresDatabase (next_database t c.args.n) u write read) (sym made.after) (declares_next t c.args.n write read free))
