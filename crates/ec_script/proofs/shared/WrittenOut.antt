-- What holds of lines holds of the commands with their repeats unrolled: being confined, and being
-- of a version.
use Rattle.std.proofs.Common.{◌≡◌, ℕ, zero, suc, true, List, [], ◌∷◌, ◌++◌, map, subst, sym, refl}
use Rattle.std.specs.List.{AllByRecursion}
use Rattle.std.specs.Global.{Vec}
use Rattle.ec_database.specs.Shapes.{Database}
use Rattle.ec_machine.specs.declared.command.Value.{Value}
use Rattle.ec_machine.specs.declared.command.Command.{Command, map-Command}
use Rattle.ec_machine.specs.declared.command.Command.TheOpen.{Command-F}
use Rattle.ec_machine.specs.declared.command.Command.TheOpen as layer
use Rattle.ec_machine.specs.declared.command.Command.TheViews.{roll-Command, out-Command, out-roll-Command}
use Rattle.ec_machine.specs.declared.command.Command.TheFolds.{ind-Command, fold-roll-Command}
use Rattle.ec_machine.specs.declared.command.Command.TheVariants as commands
use Rattle.ec_machine.specs.Unrolled.{unroll, unroll_command, written_step, repeated}
use Rattle.ec_heading.specs.declared.group.Group.{Group}
use Rattle.ec_heading.specs.declared.version.Version.{Version}
use Rattle.ec_script.specs.declared.block_item.BlockItem.{BlockItem}
use Rattle.ec_script.specs.declared.block_item.BlockItem.TheVariants.{Do, Write, Begin, End}
use Rattle.ec_script.specs.Flat.{flat, flat_one, flat_step, all_of}
use Rattle.ec_script.specs.Confined.{UsesGroups, IsConfined, AreConfined, AreConfinedPrograms, has_command, HasItem, HasItems, HasPrograms}
use Rattle.ec_heading.proofs.shared.Each.{each_append as every_append}

-- LISTS

every_front : {X : Type 0} (P : X → Type 0) (xs ys : List X) → AllByRecursion P (xs ++ ys) → AllByRecursion P xs
every_front P [] ys all = tt
every_front P (x ∷ xs) ys all = (all.0, every_front P xs ys all.1)

every_back : {X : Type 0} (P : X → Type 0) (xs ys : List X) → AllByRecursion P (xs ++ ys) → AllByRecursion P ys
every_back P [] ys all = all
every_back P (x ∷ xs) ys all = every_back P xs ys all.1

every_repeated : (P : Command → Type 0) (n : ℕ) (xs : List Command) → AllByRecursion P xs → AllByRecursion P (repeated n xs)
unfolding repeated
every_repeated P zero xs all = tt
every_repeated P (suc n) xs all = every_append P xs (repeated n xs) all (every_repeated P n xs all)

-- ONE COMMAND

-- a command, of whose layer this holds
abbrev Of : (Command-F Command → Type 0) → Command → Type 0
Of P c = P (out-Command c)

-- a command by its layer
pub by_layer : (P : Command-F Command → Type 0) (d : Command-F Command) (c : Command) → roll-Command d ≡ c → P d → P (out-Command c)
by_layer P d c is one = subst (Of P) is (subst P (sym (out-roll-Command d)) one)

-- what holds of the line of a command holds of the command
record Passes (P : Command-F Command → Type 0) (Q : BlockItem → Type 0) : Type 0 where
  line : (c : Command) → Q (Do c) → P (out-Command c)
  write : (d : Database) (vs : Vec Value) → Q (Write d vs.items) → P (layer.WriteAll d vs)

-- if it holds of a command's lines, it holds of the unrolled commands
abbrev Comes : (Command-F Command → Type 0) → (BlockItem → Type 0) → Command → Type 0
Comes P Q c = AllByRecursion Q (flat_one c) → AllByRecursion (Of P) (unroll_command c)

all_come : (P : Command-F Command → Type 0) (Q : BlockItem → Type 0) (es : List ((c : Command) × Comes P Q c)) → AllByRecursion Q (flat (map (λ e. e.0) es)) → AllByRecursion (Of P) (unroll (map (λ e. e.0) es))
unfolding all_of
all_come P Q [] all = tt
all_come P Q (e ∷ es) all =
    every_append (Of P) (unroll_command e.0) (unroll (map (λ e. e.0) es)) (e.1 (every_front Q (flat_one e.0) (flat (map (λ e. e.0) es)) all))
    (all_come P Q es (every_back Q (flat_one e.0) (flat (map (λ e. e.0) es)) all))

-- the same of the block of a repeat
abbrev BlockComes : (Command-F Command → Type 0) → (BlockItem → Type 0) → Command-F Command → Type 0
BlockComes P Q (layer.Repeat n block) = AllByRecursion Q (flat block.items) → AllByRecursion (Of P) (unroll block.items)
BlockComes P Q _ = Unit {0}

block_comes : (P : Command-F Command → Type 0) (Q : BlockItem → Type 0) (y : Command-F ((c : Command) × Comes P Q c)) → BlockComes P Q (map-Command ((c : Command) × Comes P Q c) Command (λ e. e.0) y)
block_comes P Q (layer.Repeat n block) = all_come P Q block.items
block_comes P Q _ = tt

-- a command of one line
one : (P : Command-F Command → Type 0) (Q : BlockItem → Type 0) (d : Command-F Command) (o : BlockItem) (c : Command) → flat_one (roll-Command d) ≡ o ∷ [] → unroll_command (roll-Command d) ≡ c ∷ [] → (Q o → P (out-Command c)) → Comes P Q (roll-Command d)
one P Q d o c lines is holds = λ all. subst (AllByRecursion (Of P)) (sym is) (holds (subst (AllByRecursion Q) lines all).0, tt)

abbrev pub FlatIs : Command-F Command → List BlockItem → Type 0
FlatIs d os = flat_one (roll-Command d) ≡ os

comes : (P : Command-F Command → Type 0) (Q : BlockItem → Type 0) → Passes P Q → (d : Command-F Command) → BlockComes P Q d → Comes P Q (roll-Command d)
comes P Q t (layer.Advance e) inner = one P Q _ (Do (commands.Advance e)) (commands.Advance e) (fold-roll-Command (List BlockItem) flat_step (layer.Advance e)) (fold-roll-Command (List Command) written_step (layer.Advance e)) (t.line (commands.Advance e))
comes P Q t (layer.Read e) inner = one P Q _ (Do (commands.Read e)) (commands.Read e) (fold-roll-Command (List BlockItem) flat_step (layer.Read e)) (fold-roll-Command (List Command) written_step (layer.Read e)) (t.line (commands.Read e))
comes P Q t (layer.Await e v) inner = one P Q _ (Do (commands.Await e v)) (commands.Await e v) (fold-roll-Command (List BlockItem) flat_step (layer.Await e v)) (fold-roll-Command (List Command) written_step (layer.Await e v)) (t.line (commands.Await e v))
comes P Q t (layer.Ticket q) inner = one P Q _ (Do (commands.Ticket q)) (commands.Ticket q) (fold-roll-Command (List BlockItem) flat_step (layer.Ticket q)) (fold-roll-Command (List Command) written_step (layer.Ticket q)) (t.line (commands.Ticket q))
comes P Q t (layer.Put x v) inner = one P Q _ (Do (commands.Put x v)) (commands.Put x v) (fold-roll-Command (List BlockItem) flat_step (layer.Put x v)) (fold-roll-Command (List Command) written_step (layer.Put x v)) (t.line (commands.Put x v))
comes P Q t (layer.Get x) inner = one P Q _ (Do (commands.Get x)) (commands.Get x) (fold-roll-Command (List BlockItem) flat_step (layer.Get x)) (fold-roll-Command (List Command) written_step (layer.Get x)) (t.line (commands.Get x))
comes P Q t (layer.Hand e b) inner = one P Q _ (Do (commands.Hand e b)) (commands.Hand e b) (fold-roll-Command (List BlockItem) flat_step (layer.Hand e b)) (fold-roll-Command (List Command) written_step (layer.Hand e b)) (t.line (commands.Hand e b))
comes P Q t (layer.Produce b v) inner = one P Q _ (Do (commands.Produce b v)) (commands.Produce b v) (fold-roll-Command (List BlockItem) flat_step (layer.Produce b v)) (fold-roll-Command (List Command) written_step (layer.Produce b v)) (t.line (commands.Produce b v))
comes P Q t (layer.Consume b) inner = one P Q _ (Do (commands.Consume b)) (commands.Consume b) (fold-roll-Command (List BlockItem) flat_step (layer.Consume b)) (fold-roll-Command (List Command) written_step (layer.Consume b)) (t.line (commands.Consume b))
comes P Q t (layer.WriteAll d vs) inner =
    one P Q _ (Write d vs.items) (commands.WriteAll d vs) (fold-roll-Command (List BlockItem) flat_step (layer.WriteAll d vs)) (fold-roll-Command (List Command) written_step (layer.WriteAll d vs))
    (λ h. by_layer P (layer.WriteAll d vs) (commands.WriteAll d vs) (commands.rolls-WriteAll d vs) (t.write d vs h))
comes P Q t (layer.Snapshot d n) inner = one P Q _ (Do (commands.Snapshot d n)) (commands.Snapshot d n) (fold-roll-Command (List BlockItem) flat_step (layer.Snapshot d n)) (fold-roll-Command (List Command) written_step (layer.Snapshot d n)) (t.line (commands.Snapshot d n))
comes P Q t (layer.Down s) inner = one P Q _ (Do (commands.Down s)) (commands.Down s) (fold-roll-Command (List BlockItem) flat_step (layer.Down s)) (fold-roll-Command (List Command) written_step (layer.Down s)) (t.line (commands.Down s))
comes P Q t (layer.Up s) inner = one P Q _ (Do (commands.Up s)) (commands.Up s) (fold-roll-Command (List BlockItem) flat_step (layer.Up s)) (fold-roll-Command (List Command) written_step (layer.Up s)) (t.line (commands.Up s))
comes P Q t (layer.DownBoth r s u) inner = one P Q _ (Do (commands.DownBoth r s u)) (commands.DownBoth r s u) (fold-roll-Command (List BlockItem) flat_step (layer.DownBoth r s u)) (fold-roll-Command (List Command) written_step (layer.DownBoth r s u)) (t.line (commands.DownBoth r s u))
comes P Q t (layer.Repeat n block) inner = λ all.
    let lines : FlatIs (layer.Repeat n block) (Begin n ∷ (flat block.items ++ End ∷ [])) = fold-roll-Command (List BlockItem) flat_step (layer.Repeat n block) in
    let block_all = every_front Q (flat block.items) (End ∷ []) (subst (AllByRecursion Q) lines all).1 in
    subst (AllByRecursion (Of P)) (sym (fold-roll-Command (List Command) written_step (layer.Repeat n block))) (every_repeated (Of P) n (unroll block.items) (inner block_all))

command_comes : (P : Command-F Command → Type 0) (Q : BlockItem → Type 0) → Passes P Q → (c : Command) → Comes P Q c
command_comes P Q t = ind-Command (Comes P Q) (λ x y is. comes P Q t x (subst (BlockComes P Q) is (block_comes P Q y)))

-- PROGRAMS

program_comes : (P : Command-F Command → Type 0) (Q : BlockItem → Type 0) → Passes P Q → (cs : List Command) → AllByRecursion Q (flat cs) → AllByRecursion (Of P) (unroll cs)
unfolding all_of
program_comes P Q t [] all = tt
program_comes P Q t (c ∷ cs) all =
    every_append (Of P) (unroll_command c) (unroll cs) (command_comes P Q t c (every_front Q (flat_one c) (flat cs) all)) (program_comes P Q t cs (every_back Q (flat_one c) (flat cs) all))

programs_come : (P : Command-F Command → Type 0) (Q : BlockItem → Type 0) → Passes P Q → (programs : List (List Command)) → AllByRecursion (AllByRecursion Q) (map flat programs) → AllByRecursion (λ cs. AllByRecursion (Of P) (unroll cs)) programs
programs_come P Q t [] all = tt
programs_come P Q t (cs ∷ programs) all = (program_comes P Q t cs all.0, programs_come P Q t programs all.1)

-- programs whose lines are confined have only confined commands
pub confined_lines : (gs : List Group) (programs : List (List Command)) → AreConfined gs (map flat programs) → AreConfinedPrograms gs programs
confined_lines gs programs all = programs_come (UsesGroups gs) (IsConfined gs) (record { line = λ c h. h; write = λ d vs h. h }) programs all

-- programs whose lines a version has have only commands that it has
pub had_lines : (v : Version) (programs : List (List Command)) → HasItems v (map flat programs) → HasPrograms v programs
had_lines v programs all = programs_come (λ d. has_command v d ≡ true) (HasItem v) (record { line = λ c h. h; write = λ d vs h. refl }) programs all
