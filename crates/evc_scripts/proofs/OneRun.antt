-- The lines of a plan determine how it is played: in one way, or not, since it names a worker that
-- has ended.
use Rattle.std.proofs.Common.{◌≡◌, ℕ, zero, suc, ◌<◌, List, [], ◌∷◌, length, map, reverse, take, Some, refl, sym, ap, ap₂, ◌∙◌, subst, arith, slice_get, Ok, inl, inr}
use Rattle.std.proofs.lemmas.Option.{same_Some}
use Rattle.ec_count.specs.Tables.{Tables}
use Rattle.ec_core.specs.declared.act.Entry.{Entry}
use Rattle.ec_machine.specs.declared.command.Command.{Command}
use Rattle.ec_machine.specs.declared.outcome.Outcome.{Outcome}
use Rattle.ec_machine.specs.Follows.{program_at}
use Rattle.ec_machine.specs.Steps.{own}
use Rattle.ec_heading.specs.HeadingModel.{HeadingModel}
use Rattle.ec_heading.specs.Recalled.{outline_of}
use Rattle.ec_heading.specs.Spelling.{trace_text}
use Rattle.ec_heading.proofs.shared.TreeFound.{outline_found}
use Rattle.ec_script.specs.declared.block_item.BlockItem.{BlockItem}
use Rattle.ec_script.specs.Flat.{flat}
use Rattle.ec_script.specs.ScriptModel.{PlanModel}
use Rattle.ec_runner.specs.Reported.{AreOutcomes}
use Rattle.ec_runner.specs.Schedules.{Turn, IsTurn, AreTurns, Plays, EndsBeforePlace, entries_of, refusal_in_turns, ended_by, outcome_after}
use Rattle.ec_runner.proofs.shared.InOrder.{one_run, ended_not_played}
use Rattle.ec_runner.proofs.shared.Histories.{no_history}
use Rattle.evc_engine.specs.declared.status.Status.TheVariants.{Done, Refused}
use Rattle.evc_engine.specs.Checks.{Outputs}
use Rattle.evc_scripts.specs.OutcomeNotes.{outcomes_note}
use Rattle.evc_scripts.specs.SimLaws.{LinesPlayAlike, PlansHaveOneRun, SimsHaveOneText, EndedPlansAreNotPlayed, EndedPlansHaveNoHistory, PlansEndAtOnePlace, SimsEndOneWay}
use Rattle.evc_scripts.specs.Sims.{IsTraceUnder, IsPlayed, PlanEnds, SaysPlan}
use Rattle.evc_scripts.proofs.SameLines.{same_next, same_outcome}

-- PROGRAMS OF THE SAME LINES

lines_same : (a b : List BlockItem) (xs ys : List (List BlockItem)) → a ∷ xs ≡ b ∷ ys → (a ≡ b)
    × (xs ≡ ys)
lines_same a b xs ys is = (cc, cc)

-- those of one worker
pub same_at : (programs others : List (List Command)) (w : ℕ) → map flat programs ≡ map flat others → flat (program_at programs w) ≡ flat (program_at others w)
same_at [] [] w same = refl
same_at [] (ds ∷ others) w same = cc
same_at (cs ∷ programs) [] w same = cc
same_at (cs ∷ programs) (ds ∷ others) zero same = (lines_same (flat cs) (flat ds) (map flat programs) (map flat others) same).0
same_at (cs ∷ programs) (ds ∷ others) (suc w) same = same_at programs others w (lines_same (flat cs) (flat ds) (map flat programs) (map flat others) same).1

same_after : (programs others : List (List Command)) (w : ℕ) (turns : List Turn) → map flat programs ≡ map flat others → outcome_after programs w turns ≡ outcome_after others w turns
same_after programs others w turns same = ap (ended_by (refusal_in_turns w turns)) (same_outcome (program_at programs w) (program_at others w) (own w (entries_of turns)) (same_at programs others w same))

module _ (t : Tables) (programs others : List (List Command)) (same : map flat programs ≡ map flat others) where
  same_turn : (turns : List Turn) (x : Turn) → IsTurn t programs turns x → IsTurn t others turns x
  same_turn turns x is = record {
    running = sym (same_after programs others x.worker turns same) ∙ is.running;
    due = sym (same_next (program_at programs x.worker) (program_at others x.worker) (own x.worker (entries_of turns)) (same_at programs others x.worker same)) ∙ is.due;
    answer = is.answer;
  }

  same_turns : (turns : List Turn) → AreTurns t programs turns → AreTurns t others turns
  same_turns [] each = tt
  same_turns (x ∷ turns) each = (same_turn turns x each.0, same_turns turns each.1)

  same_plays : (schedule : List ℕ) (turns : List Turn) → Plays t programs schedule turns → Plays t others schedule turns
  same_plays schedule turns plays = record { workers = plays.workers; each = same_turns turns plays.each }

  same_ended : (schedule : List ℕ) (place w : ℕ) → EndsBeforePlace t programs schedule place w → EndsBeforePlace t others schedule place w
  same_ended schedule place w e = record {
    turns = e.turns;
    plays = same_plays (take place schedule) e.turns e.plays;
    named = e.named;
    ended = λ running. e.ended (same_after programs others w e.turns same ∙ running);
  }

pub play_alike : LinesPlayAlike
play_alike t programs others schedule turns same plays = (same_plays t programs others same schedule turns plays, λ w. same_after programs others w turns same)

-- PLANS

-- lists of the same length with the same items
same_items : {X : Type 0} (xs ys : List X) → length xs ≡ length ys → ((i : ℕ) → i < length xs → slice_get xs i ≡ slice_get ys i) → xs ≡ ys
same_items [] [] long at = refl
same_items [] (y ∷ ys) long at = absurd (omega (arith, long))
same_items (x ∷ xs) [] long at = absurd (omega (arith, long))
same_items (x ∷ xs) (y ∷ ys) long at =
    ap₂ (λ z zs. z ∷ zs) (same_Some _ _ (at 0 (omega arith))) (same_items xs ys (omega (arith, long)) (λ i within. at (suc i) (omega (arith, within))))

same_outcomes : (programs others : List (List Command)) (workers : ℕ) (turns : List Turn) (xs ys : List Outcome) → map flat programs ≡ map flat others
    → AreOutcomes programs workers turns xs → AreOutcomes others workers turns ys → xs ≡ ys
same_outcomes programs others workers turns xs ys same p q =
    same_items xs ys (p.each ∙ sym q.each) (λ i within.
    let low : i < workers = (let long : length xs ≡ workers = p.each in omega (arith, long, within)) in
    p.after i low ∙ ap Some (same_after programs others i turns same) ∙ sym (q.after i low))

pub plan_once : PlansHaveOneRun
plan_once p turns others outcomes ends one other =
    let same : map flat one.programs ≡ map flat other.programs = one.lines ∙ sym other.lines in
    let plays = same_plays p.heading.setup one.programs other.programs same p.schedule turns one.plays in
    let run : turns ≡ others = one_run p.heading.setup other.programs p.schedule turns others plays other.plays in
    let after = subst (λ l. AreOutcomes other.programs p.heading.setup.workers l ends) (sym run) other.after in
    (run, same_outcomes one.programs other.programs p.heading.setup.workers turns outcomes ends same one.after after)

-- a header has one syntax tree, so one history has one trace
pub one_trace : (h : HeadingModel) (entries more : List Entry) (trace other : List ℕ) → entries ≡ more → IsTraceUnder h entries trace → IsTraceUnder h more other → trace ≡ other
one_trace h entries more trace other same p q =
    let outlines : p.outline ≡ q.outline = sym (outline_found p.outline p.is) ∙ ap outline_of (p.declares ∙ sym q.declares) ∙ outline_found q.outline q.is in
    p.text ∙ ap₂ trace_text outlines same ∙ sym q.text

pub one_text : SimsHaveOneText
one_text p trace note other remark played again =
    let run = plan_once p played.turns again.turns played.outcomes again.outcomes played.played again.played in (
      one_trace p.heading (reverse (entries_of played.turns)) (reverse (entries_of again.turns)) trace other (ap (λ turns. reverse (entries_of turns)) run.0) played.written again.written,
      played.noted ∙ ap (outcomes_note p.heading) run.1 ∙ sym again.noted,
    )

pub never_played : EndedPlansAreNotPlayed
never_played p place w turns outcomes early plays =
    ended_not_played p.heading.setup plays.programs p.schedule place w turns
    (same_ended p.heading.setup early.programs plays.programs (early.lines ∙ sym plays.lines) p.schedule place w early.ended) plays.plays

pub never_made : EndedPlansHaveNoHistory
never_made p place w programs h outcome early lines is =
    no_history p.heading.setup programs p.schedule place w h outcome
    (same_ended p.heading.setup early.programs programs (early.lines ∙ sym lines) p.schedule place w early.ended) is

-- THE PLACE OF A WORKER THAT HAS ENDED

get_early : (k i : ℕ) (ws : List ℕ) → i < k → slice_get (take k ws) i ≡ slice_get ws i
get_early zero i ws low = absurd (omega (arith, low))
get_early (suc k) i [] low = refl
get_early (suc k) zero (w ∷ ws) low = refl
get_early (suc k) (suc i) (w ∷ ws) low = get_early k i ws (omega (arith, low))

take_early : (k i : ℕ) (ws : List ℕ) → i < k → take i (take k ws) ≡ take i ws
take_early zero i ws low = absurd (omega (arith, low))
take_early (suc k) zero ws low = refl
take_early (suc k) (suc i) [] low = refl
take_early (suc k) (suc i) (w ∷ ws) low = ap (λ l. w ∷ l) (take_early k i ws (omega (arith, low)))

-- the places before that of a worker that has ended were played, so no worker named there had ended
not_before : (t : Tables) (programs others : List (List Command)) (schedule : List ℕ) (place w other v : ℕ) → map flat programs ≡ map flat others
    → EndsBeforePlace t programs schedule place w → EndsBeforePlace t others schedule other v
    → place < other → ⊥
not_before t programs others schedule place w other v same one two low =
    let alike = same_ended t programs others same schedule place w one in
    ended_not_played t others (take other schedule) place w two.turns
    (record {
      turns = alike.turns;
      plays = subst (λ ws. Plays t others ws alike.turns) (sym (take_early other place schedule low)) alike.plays;
      named = get_early other place schedule low ∙ alike.named;
      ended = alike.ended;
    })
    two.plays

apart : (a b : ℕ) → (a < b → ⊥) → (b < a → ⊥) → a ≡ b
apart zero zero f g = refl
apart zero (suc b) f g = absurd (f (omega arith))
apart (suc a) zero f g = absurd (g (omega arith))
apart (suc a) (suc b) f g = ap suc (apart a b (λ l. f (omega (arith, l))) (λ l. g (omega (arith, l))))

pub one_place : PlansEndAtOnePlace
one_place p place w other v one two =
    let same : map flat one.programs ≡ map flat two.programs = one.lines ∙ sym two.lines in
    let places : place ≡ other =
    apart place other (not_before p.heading.setup one.programs two.programs p.schedule place w other v same one.ended two.ended)
    (not_before p.heading.setup two.programs one.programs p.schedule other v place w (sym same) two.ended one.ended) in
    (places, same_Some _ _ (sym one.ended.named ∙ ap (slice_get p.schedule) places ∙ two.ended.named))

-- THE COMMAND

pub one_plan : (bytes : List ℕ) (p q : PlanModel) → SaysPlan bytes p → SaysPlan bytes q → p ≡ q
one_plan bytes p q one other = (let same : Ok p ≡ Ok q = sym one.returned ∙ other.returned in cc)

not_both : (p : PlanModel) (old new before after : Outputs) → PlanEnds p Done old new → PlanEnds p Refused before after → ⊥
not_both p old new before after played early =
    let is : IsPlayed p played.0 played.1 = played.2 in
    never_played p early.0 early.1 is.turns is.outcomes early.2 is.played

pub one_way : SimsEndOneWay
one_way bytes left rest old new before after done (inl e) =
    not_both done.0 old new before after done.2 (subst (λ p. PlanEnds p Refused before after) (one_plan bytes e.0 done.0 e.1 done.1) e.2)
one_way bytes left rest old new before after done (inr e) = e.2.none done.0 done.1.script
