-- The steps of one worker among those of all.
use Rattle.std.proofs.Common.{◌≡◌, ◌≢◌, ℕ, Bool, true, false, ◌==◌, List, [], ◌∷◌, ◌++◌, reverse, length, slice_get, Option, Some, cond, refl, sym, ◌∙◌, ap, subst, append_assoc}
use Rattle.std.proofs.lemmas.List.{reverse-append}
use Rattle.ec_core.specs.declared.act.Act.{Act}
use Rattle.ec_core.specs.declared.act.Entry.{Entry}
use Rattle.ec_core.specs.Following.{CompletedCall}
use Rattle.ec_machine.specs.declared.command.Command.{Command}
use Rattle.ec_machine.specs.Runs.{program_call, IsRunOf, next_act}
use Rattle.ec_machine.specs.Steps.{due_after, IsRun, own}

if_append : (b : Bool) (x : Entry) (xs ys : List Entry) → cond b (x ∷ (xs ++ ys)) (xs ++ ys) ≡ cond b (x ∷ xs) xs ++ ys
if_append true x xs ys = refl
if_append false x xs ys = refl

-- the steps of a worker in two lists end to end are those in the first, and then those in the second
pub own_append : (w : ℕ) (xs ys : List Entry) → own w (xs ++ ys) ≡ own w xs ++ own w ys
own_append w [] ys = refl
own_append w (x ∷ xs) ys =
    ap (λ rest. cond (x.worker == w) (x ∷ rest) rest) (own_append w xs ys) ∙ if_append (x.worker == w) x (own w xs) (own w ys)

-- the prefixes of a run are runs
pub run_before : (list : List CompletedCall → Option Act) (later past : List Entry) → IsRun list (later ++ past) → IsRun list past
unfolding IsRun
run_before list [] past run = run
run_before list (x ∷ later) past run = run_before list later past run.1

pub run_due : (list : List CompletedCall → Option Act) (x : Entry) (past : List Entry) → IsRun list (x ∷ past) → due_after list past ≡ Some x.act
unfolding IsRun
run_due list x past run = run.0

pub own_more : (w : ℕ) (done : List Entry) (x : Entry) → (x.worker == w) ≡ true → own w (reverse (done ++ x ∷ [])) ≡ x ∷ own w (reverse done)
own_more w done x is =
    ap (own w) (reverse-append done (x ∷ [])) ∙ ap (λ b. cond b (x ∷ own w (reverse done)) (own w (reverse done))) is

pub slice_here : (done others : List Entry) (x : Entry) → slice_get (done ++ x ∷ others) (length done) ≡ Some x
slice_here [] others x = refl
slice_here (d ∷ done) others x = slice_here done others x

-- the entry that comes after these
pub entry_next : (h done rest others : List Entry) (x : Entry) → done ++ rest ≡ h → rest ≡ x ∷ others → slice_get h (length done) ≡ Some x
entry_next h done rest others x is first =
    subst (λ l. slice_get l (length done) ≡ Some x) (ap (λ r. done ++ r) (sym first) ∙ is) (slice_here done others x)

-- the entries passed, with the next one, and those after it are still the history
pub order_more : (h done rest others : List Entry) (x : Entry) → done ++ rest ≡ h → rest ≡ x ∷ others → (done ++ x ∷ []) ++ others ≡ h
order_more h done rest others x is first = append_assoc done (x ∷ []) others ∙ ap (λ r. done ++ r) (sym first) ∙ is

-- a worker's step that isn't due is in no run
pub not_due : (cs : List Command) (w : ℕ) (h done rest others : List Entry) (x : Entry) → done ++ rest ≡ h → rest ≡ x ∷ others → (x.worker == w) ≡ true
    → next_act cs (own w (reverse done)) ≢ Some x.act → IsRunOf cs (own w (reverse h)) → ⊥
not_due cs w h done rest others x is first mine off run =
    let whole = order_more h done rest others x is first in
    let parts : own w (reverse h) ≡ own w (reverse others) ++ (x ∷ own w (reverse done)) =
    ap (λ l. own w (reverse l)) (sym whole) ∙ ap (own w) (reverse-append (done ++ x ∷ []) others)
    ∙ own_append w (reverse others) (reverse (done ++ x ∷ [])) ∙ ap (λ past. own w (reverse others) ++ past) (own_more w done x mine) in
    off (run_due (program_call cs) x (own w (reverse done)) (run_before (program_call cs) (own w (reverse others)) (x ∷ own w (reverse done)) (subst (IsRunOf cs) parts run)))
