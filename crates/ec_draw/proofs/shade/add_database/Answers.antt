use Rattle.std.proofs.Common.{◌≡◌, ◌++◌, List, map, reverse, ap, sym, subst, ◌∙◌, append-nil}
use Rattle.std.specs.Result.{OnOk}
use Rattle.ec_core.specs.Audits.{IsAuditFault}
use Rattle.ec_count.specs.Tables.{Tables}
use Rattle.ec_database.specs.Shapes.{Database}
use Rattle.ec_database.specs.Following.{FollowsDatabase, database_rules}
use Rattle.ec_draw.specs.Shades.{ShadeModel, TriesModel, RepresentsTries, shade_model, shades_shown}
use Rattle.ec_draw.proofs.Balancing.{broken_no}
use Rattle.ec_draw.proofs.Shading.{group_yes, group_no}
use Rattle.ec_draw.proofs.shade.add_database.Goals as goal

pub returns-in-Ok : goal.returns-in-Ok
returns-in-Ok c =
    let t = c.args.run.now.setup in
    let d = c.args.shape.now in
    let h = c.args.run.now.entries in
    let past = reverse h in
    let w = c.args.tries.window in
    let inside = c.tries.inside in
    let represents =
    subst (λ (z : TriesModel). RepresentsTries z past) (sym c.tries.view_is) c.requires.represents in
    let shape : inside.shape.now ≡ d = ap (λ (z : TriesModel). z.shape) c.tries.view_is
    ∙ c.requires.shape in
    let of : inside.audit.shape ≡ d = represents.shape ∙ shape in
    let on : inside.audit.setup ≡ t = ap (λ (z : TriesModel). z.audit.setup) c.tries.view_is
    ∙ c.requires.setup in
    let list : map shade_model inside.shades.items ≡ shades_shown t d w past =
    represents.shades c.if-out_of_memory.false
    ∙ ap (λ (u : Tables). shades_shown u inside.shape.now inside.window past) on
    ∙ ap (λ (z : Database). shades_shown t z inside.window past) shape
    ∙ ap (λ (z : TriesModel). shades_shown t d z.window past) c.tries.view_is in
    let followed = subst (λ (z : Database). FollowsDatabase t z past) of c.in-Ok.ensures.followed in
    subst (λ (l : List ShadeModel). OnOk c.add_all.result
    (map shade_model c.add_all.new.shades.items ≡ map shade_model c.args.shades.now.items ++ l))
    (group_yes t d w h (map shade_model inside.shades.items) followed list) c.add_all.ensures

pub returns-in-Err-NotFollowed : goal.returns-in-Err-NotFollowed
returns-in-Err-NotFollowed c =
    let t = c.args.run.now.setup in
    let d = c.args.shape.now in
    let h = c.args.run.now.entries in
    let represents = subst (λ (z : TriesModel). RepresentsTries z (reverse h)) (sym c.tries.view_is)
    c.requires.represents in
    let of : c.tries.inside.audit.shape ≡ d = represents.shape
    ∙ ap (λ (z : TriesModel). z.shape) c.tries.view_is ∙ c.requires.shape in
    let returned = subst
    (λ (z : Database). IsAuditFault (database_rules t z) h c.in-Err-NotFollowed.field-0) of
    c.in-Err-NotFollowed.ensures.err in
    sym (append-nil (map shade_model c.args.shades.now.items))
    ∙ ap (λ l. map shade_model c.args.shades.now.items ++ l)
    (group_no t d c.args.tries.window h
    (broken_no (database_rules t d) h _ _ _ c.in-Err-NotFollowed.field-0-is returned))
