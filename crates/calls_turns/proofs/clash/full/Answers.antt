use Rattle.std.proofs.Common.{◌≡◌, ◌++◌, ◌∷◌, [], ◌∙◌, ap, subst, sym}
use Rattle.calls_turns.specs.declared.demand.Fill.{Fill}
use Rattle.calls_turns.specs.Steps.{known}
use Rattle.calls_turns.specs.Shares.{AreSeeking, IsLoad}
use Rattle.calls_turns.proofs.Loads.{seeking, full_shown}
use Rattle.calls_turns.proofs.clash.full.Goals as goal

pub load_of-requires-clause-seeking : goal.load_of-requires-clause-seeking
load_of-requires-clause-seeking c =
    let end = c.args.end in
    let turns = c.args.turns.now in
    let takers = c.args.takers.now in
    let fills = c.args.fills.now in
    let p = c.args.demand.at in
    let f : Fill = record { taker = c.args.taker; demand = c.args.demand } in
    let all : c.deref.result.now ≡ fills ++ f ∷ [] =
    c.deref.ensures.value ∙ c.in_ok-push.ensures.items
    ∙ ap (λ l. l ++ f ∷ []) c.in_ok-seeking.ensures.items in
    subst (λ l. AreSeeking end turns takers l p c.count_known-known.result) (sym all)
    (subst (λ n. AreSeeking end turns takers (fills ++ f ∷ []) p n) (sym c.count_known-known.ensures)
    (seeking end turns takers fills f p c.requires.filled c.requires.spares c.requires.known
    c.requires.until c.requires.due))

pub returns : goal.returns
returns c =
    let end = c.args.end in
    let turns = c.args.turns.now in
    let takers = c.args.takers.now in
    let fills = c.args.fills.now in
    let p = c.args.demand.at in
    let f : Fill = record { taker = c.args.taker; demand = c.args.demand } in
    let load = c.in_ok-shares.field-0 in
    let all : c.deref.result.now ≡ fills ++ f ∷ [] =
    c.deref.ensures.value ∙ c.in_ok-push.ensures.items
    ∙ ap (λ l. l ++ f ∷ []) c.in_ok-seeking.ensures.items in
    let loaded : IsLoad turns takers (fills ++ f ∷ []) p (known turns) load =
    subst (λ l. IsLoad turns takers l p (known turns) load) all
    (subst (λ n. IsLoad turns takers c.deref.result.now p n load) c.count_known-known.ensures
    c.in_ok-shares.ensures) in
    record {
      steps = c.in_ok-steps.ensures.steps;
      clashes = full_shown end turns takers fills f p c.count_known-known.result load
          c.in_ok-steps.steps.items c.requires.before c.requires.known c.count_known-known.ensures loaded c.in_ok-steps.ensures c.requires.closed;
    }
