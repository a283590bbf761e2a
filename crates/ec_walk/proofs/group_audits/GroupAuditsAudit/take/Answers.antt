use Rattle.std.proofs.Common.{◌≡◌, ◌∷◌, ◌∙◌, List, true, false, rules, subst, sym}
use Rattle.std.proofs.lemmas.List.{with_items_is, places}
use Rattle.std.specs.Vec.{with_items}
use Rattle.ec_heading.specs.declared.group.Group.{Group}
use Rattle.ec_walk.specs.Walks.{GroupAuditsModel, WalksOn, DispatchesOn, AreIndependent, AreHanded}
use Rattle.ec_walk.proofs.WalkLemmas.{each_taken, handed_taken, each_stays, handed_none, goes_on_to_none, hands_both, hands_nowhere}
use Rattle.ec_walk.proofs.group_audits.GroupAuditsAudit.take.Goals as goal

pub returns : goal.returns
returns g c = λ start past at is s.
    (let group = g.A.GroupAudit.group in
    let represents = g.A.Audit.represents in
    let gs = c.self.inside.groups.now in
    let old = c.self.inside.audits in
    let new = c.dispatch_all.new.audits in
    let x = c.args.entry.now in
    let op = c.args.op.now in
    let was = subst (λ (w : GroupAuditsModel g.row.A.Denot). WalksOn group represents start w past) (sym c.self.view_is) s in
    let walked = subst (λ (l : List Group). AreIndependent group represents l start.audits old.items past) (sym was.0) was.1 in
    let handed = subst (λ (l : List Group). AreHanded represents l start.audits old.items past) (sym was.0) was.2 in
    let hands = subst (λ (l : List g.row.A.Denot). DispatchesOn represents gs c.args.place op x l new) c.as_mut_slice-audits.ensures.value c.dispatch_all.ensures in
    let same : (with_items old new).items ≡ new = with_items_is old new (search (rules, places)) in
    let walks = each_taken group represents g.met.A.GroupAudit.passes gs c.args.place op x past at is start.audits old.items new hands walked in
    let goes = handed_taken group represents g.met.A.GroupAudit.passes gs c.args.place op x past at is start.audits old.items new (sym c.is_intermediate.ensures ∙ c.if-is_intermediate.false) hands handed in (
      was.0,
      subst (λ (l : List g.row.A.Denot). AreIndependent group represents start.groups start.audits l (x ∷ past)) (sym same)
          (subst (λ (l : List Group). AreIndependent group represents l start.audits new (x ∷ past)) was.0 walks),
      subst (λ (l : List g.row.A.Denot). AreHanded represents start.groups start.audits l (x ∷ past)) (sym same)
          (subst (λ (l : List Group). AreHanded represents l start.audits new (x ∷ past)) was.0 goes),
    ))

-- neither a group of the act nor a wide one
pub returns-then-is_empty-3 : goal.returns-then-is_empty-3
returns-then-is_empty-3 g c = λ start past at is s.
    (let group = g.A.GroupAudit.group in
    let represents = g.A.Audit.represents in
    let gs = c.self.inside.groups.now in
    let old = c.self.inside.audits.items in
    let x = c.args.entry.now in
    let op = c.args.op.now in
    let named = c.of-named.result in
    let wide = c.wide-wide.result in
    let was = subst (λ (w : GroupAuditsModel g.row.A.Denot). WalksOn group represents start w past) (sym c.self.view_is) s in
    let walked = subst (λ (l : List Group). AreIndependent group represents l start.audits old past) (sym was.0) was.1 in
    let handed = subst (λ (l : List Group). AreHanded represents l start.audits old past) (sym was.0) was.2 in
    let hands = hands_both represents c.args.place op x gs named wide old old old (c.of-named.ensures gs c.self.inside.tabled) (c.wide-wide.ensures gs c.self.inside.tabled)
    (hands_nowhere represents c.args.place op x gs false named.first named.end old (c.is_empty-2.ensures.yes c.if-is_empty-2.true))
    (hands_nowhere represents c.args.place op x gs true wide.first wide.end old (c.is_empty-then-is_empty-2.ensures.yes c.if-is_empty-3.true)) in
    let walks = each_taken group represents g.met.A.GroupAudit.passes gs c.args.place op x past at is start.audits old old hands walked in
    let goes = handed_taken group represents g.met.A.GroupAudit.passes gs c.args.place op x past at is start.audits old old (sym c.is_intermediate.ensures ∙ c.if-is_intermediate.false) hands handed in
    let on : WalksOn group represents start (record { groups = gs; audits = old }) (x ∷ past) = (
      was.0,
      subst (λ (l : List Group). AreIndependent group represents l start.audits old (x ∷ past)) was.0 walks,
      subst (λ (l : List Group). AreHanded represents l start.audits old (x ∷ past)) was.0 goes,
    ) in
    subst (λ (w : GroupAuditsModel g.row.A.Denot). WalksOn group represents start w (x ∷ past)) c.self.view_is on)

-- a go that ends no call
pub returns-then-is_intermediate : goal.returns-then-is_intermediate
returns-then-is_intermediate g c = λ start past at is s.
    (let group = g.A.GroupAudit.group in
    let represents = g.A.Audit.represents in
    let x = c.args.entry.now in
    let on = sym c.is_intermediate.ensures ∙ c.if-is_intermediate.true in (
      s.0,
      each_stays group represents g.met.A.GroupAudit.stays start.groups start.audits c.args.self.now.audits x past on s.1,
      handed_none represents start.groups start.audits c.args.self.now.audits x past (λ i. goes_on_to_none start.groups i x past on) s.2,
    ))
