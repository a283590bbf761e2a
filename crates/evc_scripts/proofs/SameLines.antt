-- Programs of the same lines run alike.
use Rattle.std.proofs.Common.{◌≡◌, ℕ, zero, suc, Bool, true, false, List, [], ◌∷◌, ◌++◌, map, Option, None, is_some, if◌then◌else◌, refl, sym, ap, ap₂, ◌∙◌, subst, append_assoc, append-nil}
use Rattle.std.specs.List.{AllByRecursion, list_any}
use Rattle.ec_core.specs.declared.act.Act.{Act}
use Rattle.ec_core.specs.declared.act.Entry.{Entry}
use Rattle.ec_core.specs.Following.{CompletedCall}
use Rattle.ec_core.specs.Procedures.{next_of}
use Rattle.ec_database.specs.Calls.{write_call}
use Rattle.ec_machine.specs.declared.command.Command.{Command, map-Command}
use Rattle.ec_machine.specs.declared.command.Command.TheOpen.{Command-F}
use Rattle.ec_machine.specs.declared.command.Command.TheOpen as layer
use Rattle.ec_machine.specs.declared.command.Command.TheViews.{roll-Command}
use Rattle.ec_machine.specs.declared.command.Command.TheFolds.{ind-Command, fold-roll-Command}
use Rattle.ec_machine.specs.declared.command.Command.TheVariants as commands
use Rattle.ec_machine.specs.declared.outcome.Outcome.TheVariants.{Running, ValueTooLarge}
use Rattle.ec_machine.specs.Runs.{ProgramState, start, command_call, next_in, next_call, next_state, after_call, state_after, last_number, program_call, next_act, outcome_in, outcome_at, outcome_of}
use Rattle.ec_machine.specs.Steps.{opening, completed_calls}
use Rattle.ec_machine.specs.Values.{values_of, is_large, has_large}
use Rattle.ec_machine.specs.Unrolled.{unroll, unroll_command, written_step, repeated}
use Rattle.ec_script.specs.declared.block_item.BlockItem.{BlockItem}
use Rattle.ec_script.specs.declared.block_item.BlockItem.TheVariants.{Do, Write, Begin, End}
use Rattle.ec_script.specs.Flat.{flat, flat_one, flat_step, all_of}
use Rattle.ec_heading.proofs.shared.Each.{each_append as every_append}
use Rattle.ec_database.specs.Shapes.{Database}
use Rattle.ec_machine.specs.declared.command.Value.{Value}
use Rattle.ec_script.proofs.shared.WrittenOut.{FlatIs}

-- UNROLLED LINES

unfoldable times : ℕ → List BlockItem → List BlockItem
times zero os = []
times (suc n) os = os ++ times n os

-- the lines without their repeats: each block as many times as its repeat says. The open blocks,
-- the innermost first, are given with how many times each is repeated, and the lines before it
unfoldable spread : List BlockItem → List (ℕ × List BlockItem) → List BlockItem → List BlockItem
spread [] blocks done = done
spread (Do c ∷ os) blocks done = spread os blocks (done ++ Do c ∷ [])
spread (Write d vs ∷ os) blocks done = spread os blocks (done ++ Write d vs ∷ [])
spread (Begin n ∷ os) blocks done = spread os ((n, done) ∷ blocks) []
spread (End ∷ os) [] done = done
spread (End ∷ os) (b ∷ blocks) done = spread os blocks (b.1 ++ times b.0 done)

-- LISTS

flat_append : (xs ys : List Command) → flat (xs ++ ys) ≡ flat xs ++ flat ys
unfolding all_of
flat_append [] ys = refl
flat_append (x ∷ xs) ys = ap (λ l. flat_one x ++ l) (flat_append xs ys) ∙ sym (append_assoc (flat_one x) (flat xs) (flat ys))

flat_repeated : (n : ℕ) (xs : List Command) → flat (repeated n xs) ≡ times n (flat xs)
unfolding all_of repeated times
flat_repeated zero xs = refl
flat_repeated (suc n) xs = flat_append xs (repeated n xs) ∙ ap (λ l. flat xs ++ l) (flat_repeated n xs)

-- ONE COMMAND

-- its unrolled lines are the lines of the unrolled command
abbrev Spreads : Command → Type 0
Spreads c = (os : List BlockItem) (blocks : List (ℕ × List BlockItem)) (done : List BlockItem) → spread (flat_one c ++ os) blocks done ≡ spread os blocks (done ++ flat (unroll_command c))

abbrev AllSpread : List Command → Type 0
AllSpread cs = (os : List BlockItem) (blocks : List (ℕ × List BlockItem)) (done : List BlockItem) → spread (flat cs ++ os) blocks done ≡ spread os blocks (done ++ flat (unroll cs))

none_spread : AllSpread []
unfolding all_of
none_spread os blocks done = ap (spread os blocks) (sym (append-nil done))

more_spread : (c : Command) (cs : List Command) → Spreads c → AllSpread cs → AllSpread (c ∷ cs)
unfolding all_of
more_spread c cs one all os blocks done =
    ap (λ l. spread l blocks done) (append_assoc (flat_one c) (flat cs) os)
    ∙ one (flat cs ++ os) blocks done
    ∙ all os blocks (done ++ flat (unroll_command c))
    ∙ ap (spread os blocks) (append_assoc done (flat (unroll_command c)) (flat (unroll cs)) ∙ ap (λ l. done ++ l) (sym (flat_append (unroll_command c) (unroll cs))))

all_spread : (es : List ((c : Command) × Spreads c)) → AllSpread (map (λ e. e.0) es)
all_spread [] = none_spread
all_spread (e ∷ es) = more_spread e.0 (map (λ e. e.0) es) e.1 (all_spread es)

-- the same of the block of a repeat
abbrev BlockSpreads : Command-F Command → Type 0
BlockSpreads (layer.Repeat n block) = AllSpread block.items
BlockSpreads _ = Unit {0}

block_spreads : (y : Command-F ((c : Command) × Spreads c)) → BlockSpreads (map-Command ((c : Command) × Spreads c) Command (λ e. e.0) y)
block_spreads (layer.Repeat n block) = all_spread block.items
block_spreads _ = tt

-- a line that unrolls to itself
abbrev IsKept : BlockItem → Type 0
IsKept o = (os : List BlockItem) (blocks : List (ℕ × List BlockItem)) (done : List BlockItem) → spread (o ∷ os) blocks done ≡ spread os blocks (done ++ o ∷ [])

does : (c : Command) → IsKept (Do c)
unfolding spread
does c os blocks done = refl

writes : (d : Database) (vs : List Value) → IsKept (Write d vs)
unfolding spread
writes d vs os blocks done = refl

flat_single : (c : Command) → flat (c ∷ []) ≡ flat_one c
unfolding all_of
flat_single c = append-nil (flat_one c)

-- a command of one line
one : (d : Command-F Command) (o : BlockItem) (c : Command) → flat_one (roll-Command d) ≡ o ∷ [] → unroll_command (roll-Command d) ≡ c ∷ [] → roll-Command d ≡ c → IsKept o → Spreads (roll-Command d)
one d o c lines is same kept os blocks done =
    ap (λ l. spread (l ++ os) blocks done) lines
    ∙ kept os blocks done
    ∙ ap (λ l. spread os blocks (done ++ l)) (sym (ap flat is ∙ flat_single c ∙ ap flat_one (sym same) ∙ lines))

abbrev WrittenIs : Command-F Command → List Command → Type 0
WrittenIs d cs = unroll_command (roll-Command d) ≡ cs

block_ends : (n : ℕ) (cs : List Command) (os : List BlockItem) (blocks : List (ℕ × List BlockItem)) (done : List BlockItem) → AllSpread cs
    → spread (Begin n ∷ (flat cs ++ End ∷ []) ++ os) blocks done ≡ spread os blocks (done ++ times n (flat (unroll cs)))
unfolding spread
block_ends n cs os blocks done all =
    ap (λ l. spread l ((n, done) ∷ blocks) []) (append_assoc (flat cs) (End ∷ []) os) ∙ all (End ∷ os) ((n, done) ∷ blocks) []

spreads : (d : Command-F Command) → BlockSpreads d → Spreads (roll-Command d)
spreads (layer.Advance e) inner = one _ (Do (commands.Advance e)) (commands.Advance e) (fold-roll-Command (List BlockItem) flat_step (layer.Advance e)) (fold-roll-Command (List Command) written_step (layer.Advance e)) (commands.rolls-Advance e) (does (commands.Advance e))
spreads (layer.Read e) inner = one _ (Do (commands.Read e)) (commands.Read e) (fold-roll-Command (List BlockItem) flat_step (layer.Read e)) (fold-roll-Command (List Command) written_step (layer.Read e)) (commands.rolls-Read e) (does (commands.Read e))
spreads (layer.Await e v) inner = one _ (Do (commands.Await e v)) (commands.Await e v) (fold-roll-Command (List BlockItem) flat_step (layer.Await e v)) (fold-roll-Command (List Command) written_step (layer.Await e v)) (commands.rolls-Await e v) (does (commands.Await e v))
spreads (layer.Ticket q) inner = one _ (Do (commands.Ticket q)) (commands.Ticket q) (fold-roll-Command (List BlockItem) flat_step (layer.Ticket q)) (fold-roll-Command (List Command) written_step (layer.Ticket q)) (commands.rolls-Ticket q) (does (commands.Ticket q))
spreads (layer.Put x v) inner = one _ (Do (commands.Put x v)) (commands.Put x v) (fold-roll-Command (List BlockItem) flat_step (layer.Put x v)) (fold-roll-Command (List Command) written_step (layer.Put x v)) (commands.rolls-Put x v) (does (commands.Put x v))
spreads (layer.Get x) inner = one _ (Do (commands.Get x)) (commands.Get x) (fold-roll-Command (List BlockItem) flat_step (layer.Get x)) (fold-roll-Command (List Command) written_step (layer.Get x)) (commands.rolls-Get x) (does (commands.Get x))
spreads (layer.Hand e b) inner = one _ (Do (commands.Hand e b)) (commands.Hand e b) (fold-roll-Command (List BlockItem) flat_step (layer.Hand e b)) (fold-roll-Command (List Command) written_step (layer.Hand e b)) (commands.rolls-Hand e b) (does (commands.Hand e b))
spreads (layer.Produce b v) inner = one _ (Do (commands.Produce b v)) (commands.Produce b v) (fold-roll-Command (List BlockItem) flat_step (layer.Produce b v)) (fold-roll-Command (List Command) written_step (layer.Produce b v)) (commands.rolls-Produce b v) (does (commands.Produce b v))
spreads (layer.Consume b) inner = one _ (Do (commands.Consume b)) (commands.Consume b) (fold-roll-Command (List BlockItem) flat_step (layer.Consume b)) (fold-roll-Command (List Command) written_step (layer.Consume b)) (commands.rolls-Consume b) (does (commands.Consume b))
spreads (layer.WriteAll d vs) inner = one _ (Write d vs.items) (commands.WriteAll d vs) (fold-roll-Command (List BlockItem) flat_step (layer.WriteAll d vs)) (fold-roll-Command (List Command) written_step (layer.WriteAll d vs)) (commands.rolls-WriteAll d vs) (writes d vs.items)
spreads (layer.Snapshot d n) inner = one _ (Do (commands.Snapshot d n)) (commands.Snapshot d n) (fold-roll-Command (List BlockItem) flat_step (layer.Snapshot d n)) (fold-roll-Command (List Command) written_step (layer.Snapshot d n)) (commands.rolls-Snapshot d n) (does (commands.Snapshot d n))
spreads (layer.Down s) inner = one _ (Do (commands.Down s)) (commands.Down s) (fold-roll-Command (List BlockItem) flat_step (layer.Down s)) (fold-roll-Command (List Command) written_step (layer.Down s)) (commands.rolls-Down s) (does (commands.Down s))
spreads (layer.Up s) inner = one _ (Do (commands.Up s)) (commands.Up s) (fold-roll-Command (List BlockItem) flat_step (layer.Up s)) (fold-roll-Command (List Command) written_step (layer.Up s)) (commands.rolls-Up s) (does (commands.Up s))
spreads (layer.DownBoth r s u) inner = one _ (Do (commands.DownBoth r s u)) (commands.DownBoth r s u) (fold-roll-Command (List BlockItem) flat_step (layer.DownBoth r s u)) (fold-roll-Command (List Command) written_step (layer.DownBoth r s u)) (commands.rolls-DownBoth r s u) (does (commands.DownBoth r s u))
spreads (layer.Repeat n block) inner = λ os blocks done.
    let lines : FlatIs (layer.Repeat n block) (Begin n ∷ (flat block.items ++ End ∷ [])) = fold-roll-Command (List BlockItem) flat_step (layer.Repeat n block) in
    let is : WrittenIs (layer.Repeat n block) (repeated n (unroll block.items)) = fold-roll-Command (List Command) written_step (layer.Repeat n block) in
    ap (λ l. spread (l ++ os) blocks done) lines
    ∙ block_ends n block.items os blocks done inner
    ∙ ap (λ l. spread os blocks (done ++ l)) (sym (ap flat is ∙ flat_repeated n (unroll block.items)))

command_spreads : (c : Command) → Spreads c
command_spreads = ind-Command Spreads (λ x y is. spreads x (subst BlockSpreads is (block_spreads y)))

-- PROGRAMS

program_spreads : (cs : List Command) → AllSpread cs
program_spreads [] = none_spread
program_spreads (c ∷ cs) = more_spread c cs (command_spreads c) (program_spreads cs)

spread_whole : (cs : List Command) → spread (flat cs) [] [] ≡ flat (unroll cs)
unfolding spread
spread_whole cs = ap (λ l. spread l [] []) (sym (append-nil (flat cs))) ∙ program_spreads cs [] [] []

-- programs of the same lines have the same unrolled lines
pub same_written : (cs others : List Command) → flat cs ≡ flat others → flat (unroll cs) ≡ flat (unroll others)
same_written cs others same = sym (spread_whole cs) ∙ ap (λ l. spread l [] []) same ∙ spread_whole others

-- THE CALLS OF A LINE

abbrev line_call : ℕ → BlockItem → List CompletedCall → Option Act
line_call last (Do c) = command_call last c
line_call last (Write d vs) = write_call d (values_of last vs)
line_call last (Begin n) = λ calls. None
line_call last End = λ calls. None

abbrev line_large : ℕ → BlockItem → Bool
line_large last (Do c) = has_large last c
line_large last (Write d vs) = list_any (is_large last) vs
line_large last (Begin n) = false
line_large last End = false

-- a command of one line, which determines its calls and whether its values are too large
record IsSaid (c : Command) : Type 0 where
  line : BlockItem
  lines : flat_one c ≡ line ∷ []
  calls : (last : ℕ) → command_call last c ≡ line_call last line
  large : (last : ℕ) → has_large last c ≡ line_large last line

abbrev AllSaid : List Command → Type 0
AllSaid cs = AllByRecursion IsSaid cs

all_repeated : (n : ℕ) (cs : List Command) → AllSaid cs → AllSaid (repeated n cs)
unfolding repeated
all_repeated zero cs all = tt
all_repeated (suc n) cs all = every_append IsSaid cs (repeated n cs) all (all_repeated n cs all)

-- each command of an unrolled command is so
abbrev ComesSaid : Command → Type 0
ComesSaid c = AllSaid (unroll_command c)

all_come : (es : List ((c : Command) × ComesSaid c)) → AllSaid (unroll (map (λ e. e.0) es))
all_come [] = tt
all_come (e ∷ es) = every_append IsSaid (unroll_command e.0) (unroll (map (λ e. e.0) es)) e.1 (all_come es)

abbrev BlockSaid : Command-F Command → Type 0
BlockSaid (layer.Repeat n block) = AllSaid (unroll block.items)
BlockSaid _ = Unit {0}

block_said : (y : Command-F ((c : Command) × ComesSaid c)) → BlockSaid (map-Command ((c : Command) × ComesSaid c) Command (λ e. e.0) y)
block_said (layer.Repeat n block) = all_come block.items
block_said _ = tt

-- a command that is no repeat
said_one : (d : Command-F Command) (o : BlockItem) (c : Command) → flat_one (roll-Command d) ≡ o ∷ [] → unroll_command (roll-Command d) ≡ c ∷ [] → roll-Command d ≡ c
    → ((last : ℕ) → command_call last c ≡ line_call last o) → ((last : ℕ) → has_large last c ≡ line_large last o) → ComesSaid (roll-Command d)
said_one d o c lines is same calls large = subst AllSaid (sym is) (record { line = o; lines = ap flat_one (sym same) ∙ lines; calls = calls; large = large }, tt)

said : (d : Command-F Command) → BlockSaid d → ComesSaid (roll-Command d)
said (layer.Advance e) inner = said_one _ (Do (commands.Advance e)) (commands.Advance e) (fold-roll-Command (List BlockItem) flat_step (layer.Advance e)) (fold-roll-Command (List Command) written_step (layer.Advance e)) (commands.rolls-Advance e) (λ last. refl) (λ last. refl)
said (layer.Read e) inner = said_one _ (Do (commands.Read e)) (commands.Read e) (fold-roll-Command (List BlockItem) flat_step (layer.Read e)) (fold-roll-Command (List Command) written_step (layer.Read e)) (commands.rolls-Read e) (λ last. refl) (λ last. refl)
said (layer.Await e v) inner = said_one _ (Do (commands.Await e v)) (commands.Await e v) (fold-roll-Command (List BlockItem) flat_step (layer.Await e v)) (fold-roll-Command (List Command) written_step (layer.Await e v)) (commands.rolls-Await e v) (λ last. refl) (λ last. refl)
said (layer.Ticket q) inner = said_one _ (Do (commands.Ticket q)) (commands.Ticket q) (fold-roll-Command (List BlockItem) flat_step (layer.Ticket q)) (fold-roll-Command (List Command) written_step (layer.Ticket q)) (commands.rolls-Ticket q) (λ last. refl) (λ last. refl)
said (layer.Put x v) inner = said_one _ (Do (commands.Put x v)) (commands.Put x v) (fold-roll-Command (List BlockItem) flat_step (layer.Put x v)) (fold-roll-Command (List Command) written_step (layer.Put x v)) (commands.rolls-Put x v) (λ last. refl) (λ last. refl)
said (layer.Get x) inner = said_one _ (Do (commands.Get x)) (commands.Get x) (fold-roll-Command (List BlockItem) flat_step (layer.Get x)) (fold-roll-Command (List Command) written_step (layer.Get x)) (commands.rolls-Get x) (λ last. refl) (λ last. refl)
said (layer.Hand e b) inner = said_one _ (Do (commands.Hand e b)) (commands.Hand e b) (fold-roll-Command (List BlockItem) flat_step (layer.Hand e b)) (fold-roll-Command (List Command) written_step (layer.Hand e b)) (commands.rolls-Hand e b) (λ last. refl) (λ last. refl)
said (layer.Produce b v) inner = said_one _ (Do (commands.Produce b v)) (commands.Produce b v) (fold-roll-Command (List BlockItem) flat_step (layer.Produce b v)) (fold-roll-Command (List Command) written_step (layer.Produce b v)) (commands.rolls-Produce b v) (λ last. refl) (λ last. refl)
said (layer.Consume b) inner = said_one _ (Do (commands.Consume b)) (commands.Consume b) (fold-roll-Command (List BlockItem) flat_step (layer.Consume b)) (fold-roll-Command (List Command) written_step (layer.Consume b)) (commands.rolls-Consume b) (λ last. refl) (λ last. refl)
said (layer.WriteAll d vs) inner = said_one _ (Write d vs.items) (commands.WriteAll d vs) (fold-roll-Command (List BlockItem) flat_step (layer.WriteAll d vs)) (fold-roll-Command (List Command) written_step (layer.WriteAll d vs)) (commands.rolls-WriteAll d vs) (λ last. refl) (λ last. refl)
said (layer.Snapshot d n) inner = said_one _ (Do (commands.Snapshot d n)) (commands.Snapshot d n) (fold-roll-Command (List BlockItem) flat_step (layer.Snapshot d n)) (fold-roll-Command (List Command) written_step (layer.Snapshot d n)) (commands.rolls-Snapshot d n) (λ last. refl) (λ last. refl)
said (layer.Down s) inner = said_one _ (Do (commands.Down s)) (commands.Down s) (fold-roll-Command (List BlockItem) flat_step (layer.Down s)) (fold-roll-Command (List Command) written_step (layer.Down s)) (commands.rolls-Down s) (λ last. refl) (λ last. refl)
said (layer.Up s) inner = said_one _ (Do (commands.Up s)) (commands.Up s) (fold-roll-Command (List BlockItem) flat_step (layer.Up s)) (fold-roll-Command (List Command) written_step (layer.Up s)) (commands.rolls-Up s) (λ last. refl) (λ last. refl)
said (layer.DownBoth r s u) inner = said_one _ (Do (commands.DownBoth r s u)) (commands.DownBoth r s u) (fold-roll-Command (List BlockItem) flat_step (layer.DownBoth r s u)) (fold-roll-Command (List Command) written_step (layer.DownBoth r s u)) (commands.rolls-DownBoth r s u) (λ last. refl) (λ last. refl)
said (layer.Repeat n block) inner = subst AllSaid (sym (fold-roll-Command (List Command) written_step (layer.Repeat n block))) (all_repeated n (unroll block.items) inner)

command_said : (c : Command) → ComesSaid c
command_said = ind-Command ComesSaid (λ x y is. said x (subst BlockSaid is (block_said y)))

written_said : (cs : List Command) → AllSaid (unroll cs)
written_said [] = tt
written_said (c ∷ cs) = every_append IsSaid (unroll_command c) (unroll cs) (command_said c) (written_said cs)

-- COMMANDS THAT RUN ALIKE

record RunsAlike (c d : Command) : Type 0 where
  calls : (last : ℕ) → command_call last c ≡ command_call last d
  large : (last : ℕ) → has_large last c ≡ has_large last d

abbrev Alike : List Command → List Command → Type 0
Alike [] [] = Unit {0}
Alike [] (d ∷ ds) = ⊥
Alike (c ∷ cs) [] = ⊥
Alike (c ∷ cs) (d ∷ ds) = RunsAlike c d × Alike cs ds

of_one_line : (c d : Command) (p : IsSaid c) (q : IsSaid d) → p.line ≡ q.line → RunsAlike c d
of_one_line c d p q same = record {
  calls = λ last. p.calls last ∙ ap (line_call last) same ∙ sym (q.calls last);
  large = λ last. p.large last ∙ ap (line_large last) same ∙ sym (q.large last);
}

-- the lines of commands, the first of which has one line
first_line : (c : Command) (cs : List Command) (p : IsSaid c) → flat (c ∷ cs) ≡ p.line ∷ flat cs
unfolding all_of
first_line c cs p = ap (λ l. l ++ flat cs) p.lines

no_lines : flat [] ≡ []
unfolding all_of
no_lines = refl

cons_same : (a b : BlockItem) (xs ys : List BlockItem) → a ∷ xs ≡ b ∷ ys → (a ≡ b) × (xs ≡ ys)
cons_same a b xs ys is = (cc, cc)

nil_cons : (b : BlockItem) (ys : List BlockItem) → [] ≡ b ∷ ys → ⊥
nil_cons b ys is = cc

of_same_lines : (cs ds : List Command) → AllSaid cs → AllSaid ds → flat cs ≡ flat ds → Alike cs ds
of_same_lines [] [] p q same = tt
of_same_lines [] (d ∷ ds) p q same = nil_cons q.0.line (flat ds) (sym no_lines ∙ same ∙ first_line d ds q.0)
of_same_lines (c ∷ cs) [] p q same = nil_cons p.0.line (flat cs) (sym no_lines ∙ sym same ∙ first_line c cs p.0)
of_same_lines (c ∷ cs) (d ∷ ds) p q same =
    let parts = cons_same p.0.line q.0.line (flat cs) (flat ds) (sym (first_line c cs p.0) ∙ same ∙ first_line d ds q.0) in
    (of_one_line c d p.0 q.0 parts.0, of_same_lines cs ds p.1 q.1 parts.1)

-- programs of the same lines, unrolled, run alike
written_alike : (cs ds : List Command) → flat cs ≡ flat ds → Alike (unroll cs) (unroll ds)
written_alike cs ds same = of_same_lines (unroll cs) (unroll ds) (written_said cs) (written_said ds) (same_written cs ds same)

-- PLACES IN THEM

record AlikePlaces (p q : ProgramState) : Type 0 where
  left : Alike p.left q.left
  last : p.last ≡ q.last
  completed : p.completed ≡ q.completed

abbrev at_place : List Command → ℕ → List CompletedCall → ProgramState
at_place cs last completed = record { left = cs; last = last; completed = completed }

moved_alike : (cs ds : List Command) (last : ℕ) (completed : List CompletedCall) → Alike cs ds → AlikePlaces (next_state cs last completed) (next_state ds last completed)
moved_alike [] [] last completed alike = record { left = tt; last = refl; completed = refl }
moved_alike [] (d ∷ ds) last completed alike = absurd alike
moved_alike (c ∷ cs) [] last completed alike = absurd alike
moved_alike (c ∷ cs) (d ∷ ds) last completed alike =
    let P : Bool → Type 0 = λ b. AlikePlaces (if b then at_place (c ∷ cs) last completed else at_place cs (last_number last completed) []) (if b then at_place (d ∷ ds) last completed else at_place ds (last_number last completed) []) in
    let go : P (is_some (command_call last c completed)) = elim (is_some (command_call last c completed)) as P [
      | true ↦ record { left = alike; last = refl; completed = refl }
      | false ↦ record { left = alike.1; last = refl; completed = refl }
    ] in
    subst (λ b. AlikePlaces (next_state (c ∷ cs) last completed) (if b then at_place (d ∷ ds) last completed else at_place ds (last_number last completed) []))
    (ap (λ f. is_some (f completed)) (alike.0.calls last)) go

after_alike : (p q : ProgramState) (x : CompletedCall) → AlikePlaces p q → AlikePlaces (after_call p x) (after_call q x)
after_alike p q x alike =
    let more : p.completed ++ x ∷ [] ≡ q.completed ++ x ∷ [] =
    ap (λ l. l ++ x ∷ []) alike.completed in
    subst (λ l. AlikePlaces (after_call p x) (next_state q.left q.last l)) more
    (subst (λ n. AlikePlaces (after_call p x) (next_state q.left n (p.completed ++ x ∷ []))) alike.last (moved_alike p.left q.left p.last (p.completed ++ x ∷ []) alike.left))

place_alike : (calls : List CompletedCall) (p q : ProgramState) → AlikePlaces p q → AlikePlaces (state_after p calls) (state_after q calls)
unfolding state_after
place_alike [] p q alike = alike
place_alike (x ∷ calls) p q alike = place_alike calls (after_call p x) (after_call q x) (after_alike p q x alike)

next_in_alike : (cs ds : List Command) (last : ℕ) (completed : List CompletedCall) → Alike cs ds → next_in cs last completed ≡ next_in ds last completed
next_in_alike [] [] last completed alike = refl
next_in_alike [] (d ∷ ds) last completed alike = absurd alike
next_in_alike (c ∷ cs) [] last completed alike = absurd alike
next_in_alike (c ∷ cs) (d ∷ ds) last completed alike =
    ap₂ (λ (b : Bool) (o : Option Act). if b then None else o) (alike.0.large last) (ap (λ f. f completed) (alike.0.calls last))

next_alike : (p q : ProgramState) → AlikePlaces p q → next_call p ≡ next_call q
next_alike p q alike = next_in_alike p.left q.left p.last p.completed alike.left ∙ ap₂ (next_in q.left) alike.last alike.completed

outcome_in_alike : (cs ds : List Command) (last : ℕ) → Alike cs ds → outcome_in cs last ≡ outcome_in ds last
outcome_in_alike [] [] last alike = refl
outcome_in_alike [] (d ∷ ds) last alike = absurd alike
outcome_in_alike (c ∷ cs) [] last alike = absurd alike
outcome_in_alike (c ∷ cs) (d ∷ ds) last alike = ap (λ b. if b then ValueTooLarge else Running) (alike.0.large last)

outcome_alike : (p q : ProgramState) → AlikePlaces p q → outcome_at p ≡ outcome_at q
outcome_alike p q alike = outcome_in_alike p.left q.left p.last alike.left ∙ ap (outcome_in q.left) alike.last

-- PROGRAMS

start_alike : (cs ds : List Command) → flat cs ≡ flat ds → AlikePlaces (start cs) (start ds)
start_alike cs ds same = record { left = written_alike cs ds same; last = refl; completed = refl }

calls_alike : (cs ds : List Command) (calls : List CompletedCall) → flat cs ≡ flat ds → program_call cs calls ≡ program_call ds calls
calls_alike cs ds calls same = next_alike (state_after (start cs) calls) (state_after (start ds) calls) (place_alike calls (start cs) (start ds) (start_alike cs ds same))

-- the act that comes next in programs of the same lines
pub same_next : (cs ds : List Command) (past : List Entry) → flat cs ≡ flat ds → next_act cs past ≡ next_act ds past
same_next cs ds past same = ap (next_of (is_some (opening past))) (calls_alike cs ds (completed_calls past) same)

-- the outcome of programs of the same lines
pub same_outcome : (cs ds : List Command) (past : List Entry) → flat cs ≡ flat ds → outcome_of cs past ≡ outcome_of ds past
same_outcome cs ds past same =
    outcome_alike (state_after (start cs) (completed_calls past)) (state_after (start ds) (completed_calls past)) (place_alike (completed_calls past) (start cs) (start ds) (start_alike cs ds same))
