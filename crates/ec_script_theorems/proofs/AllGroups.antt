-- Confined programs follow each group of their header.
use Rattle.std.proofs.Common.{◌≡◌, inl, inr, ℕ, Bool, zero, suc, List, [], ◌∷◌, reverse, ◌∙◌}
use Rattle.std.specs.List.{AllByRecursion, Contains}
use Rattle.std.proofs.lemmas.List.Elements.{All-from_recursion, All-contains, All-contains_itself, All-weaker}
use Rattle.ec_count.specs.Tables.{Tables}
use Rattle.ec_core.specs.declared.act.Act.{Act}
use Rattle.ec_core.specs.declared.act.Entry.{Entry}
use Rattle.ec_core.specs.Acceptance.{IsAccepted}
use Rattle.ec_buffer.specs.Shapes.{Buffer}
use Rattle.ec_buffer.specs.Follows as buffers
use Rattle.ec_database.specs.Shapes.{Database}
use Rattle.ec_database.specs.Following as databases
use Rattle.ec_semaphore.specs.Shapes.{Semaphore}
use Rattle.ec_semaphore.specs.Uses as semaphores
use Rattle.ec_semaphore.specs.Both.{is_semaphore_sequencer}
use Rattle.ec_machine.specs.declared.command.Command.{Command}
use Rattle.ec_machine.specs.declared.command.Command.TheViews.{out-Command}
use Rattle.ec_machine.specs.Unrolled.{unroll}
use Rattle.ec_machine.specs.Follows.{program_at}
use Rattle.ec_heading.specs.declared.group.Group.{Group}
use Rattle.ec_heading.specs.declared.group.Group.TheVariants as groups
use Rattle.ec_heading.specs.Groups.{FitsGroup}
use Rattle.ec_heading.proofs.shared.Standing.{heading_fits}
use Rattle.ec_script.specs.Confined.{UsesGroups, IsConfinedProgram, AreConfinedPrograms}
use Rattle.ec_script_theorems.specs.Uses.{IsApart, UsesBuffer, UsesDatabase, UsesSemaphore, UsesBoth, EachCommand, AreRuns}
use Rattle.ec_heading.specs.Rules.{semaphores_of, FollowsGroup}
use Rattle.ec_script_theorems.specs.Headings.{GroupsAreFollowed}
use Rattle.ec_script_theorems.proofs.Buffers.{buffers_follow}
use Rattle.ec_script_theorems.proofs.Databases.{databases_follow}
use Rattle.ec_script_theorems.proofs.Semaphores.{semaphores_follow}
use Rattle.ec_script_theorems.proofs.Both.{both_follows}
use Rattle.ec_script_theorems.proofs.Owned.{acts_on, on_buffer, on_database, on_semaphore, on_both}
use Rattle.ec_script_theorems.proofs.Confining.{UsesGroup, AreGroups, IsShaped, command_uses}
use Rattle.ec_script_theorems.proofs.Shaped.{heading_shaped}
use Rattle.ec_script_theorems.proofs.Apart.{heading_apart}

-- EACH COMMAND OF A PROGRAM

all_use : (t : Tables) (gs : List Group) (g : Group) (cs : List Command) → AreGroups t gs → Contains gs g → AllByRecursion (λ c. UsesGroups gs (out-Command c)) cs → AllByRecursion (UsesGroup gs g) cs
all_use t gs g [] are has uses = tt
all_use t gs g (c ∷ cs) are has uses = (command_uses t gs g c are has uses.0, all_use t gs g cs are has uses.1)

each_uses : (t : Tables) (gs : List Group) (g : Group) (programs : ℕ → List Command) → AreGroups t gs → Contains gs g → ((w : ℕ) → IsConfinedProgram gs (programs w)) → EachCommand t (UsesGroup gs g) programs
each_uses t gs g programs are has confined w lt = All-from_recursion (UsesGroup gs g) (unroll (programs w)) (all_use t gs g (unroll (programs w)) are has (confined w))

-- a command that is apart by the one test is so by the other
same_apart : (on also : Act → Bool) → ((op : Act) → on op ≡ also op) → (c : Command) → IsApart also c → IsApart on c
same_apart on also same c apart last calls op is = same op ∙ apart last calls op is

weaker : (t : Tables) (P Q : Command → Type 0) → ((c : Command) → P c → Q c) → (programs : ℕ → List Command) → EachCommand t P programs → EachCommand t Q programs
weaker t P Q to programs each w lt = All-weaker P Q to (unroll (programs w)) (each w lt)

uses_buffer : (gs : List Group) (b : Buffer) (c : Command) → UsesGroup gs (groups.Buffer b) c → UsesBuffer b c
uses_buffer gs b c (inl own) = inl own
uses_buffer gs b c (inr apart) = inr (same_apart (buffers.is_on b) (acts_on (groups.Buffer b)) (on_buffer b) c apart)

uses_database : (gs : List Group) (d : Database) (c : Command) → UsesGroup gs (groups.Database d) c → UsesDatabase d c
uses_database gs d c (inl own) = inl own
uses_database gs d c (inr apart) = inr (same_apart (databases.is_on d) (acts_on (groups.Database d)) (on_database d) c apart)

uses_semaphore : (gs : List Group) (s : Semaphore) (c : Command) → UsesGroup gs (groups.Semaphore s) c → UsesSemaphore s c
uses_semaphore gs s c (inl own) = inl own
uses_semaphore gs s c (inr apart) = inr (same_apart (semaphores.is_on s) (acts_on (groups.Semaphore s)) (on_semaphore s) c apart)

uses_both : (gs : List Group) (s : Semaphore) (c : Command) → UsesGroup gs (groups.Both s) c → UsesBoth s (is_semaphore_sequencer s (semaphores_of gs)) c
uses_both gs s c (inl own) = inl own
uses_both gs s c (inr apart) = inr (same_apart (semaphores.is_on s) (acts_on (groups.Both s)) (on_both s) c apart)

-- EACH GROUP

group_follows : (t : Tables) (gs : List Group) (programs : ℕ → List Command) (h : List Entry) → AreGroups t gs → ((w : ℕ) → IsConfinedProgram gs (programs w)) → IsAccepted t (reverse h)
    → AreRuns t programs h → (g : Group) → Contains gs g → FollowsGroup t gs (reverse h) g
group_follows t gs programs h are confined acc runs (groups.Buffer b) has =
    buffers_follow t b programs h (All-contains IsShaped gs (groups.Buffer b) are.shaped has) (All-contains (FitsGroup t) gs (groups.Buffer b) are.fit has) acc
    (weaker t (UsesGroup gs (groups.Buffer b)) (UsesBuffer b) (uses_buffer gs b) programs (each_uses t gs (groups.Buffer b) programs are has confined)) runs
group_follows t gs programs h are confined acc runs (groups.Database d) has =
    databases_follow t d programs h (All-contains (FitsGroup t) gs (groups.Database d) are.fit has) acc
    (weaker t (UsesGroup gs (groups.Database d)) (UsesDatabase d) (uses_database gs d) programs (each_uses t gs (groups.Database d) programs are has confined)) runs
group_follows t gs programs h are confined acc runs (groups.Semaphore s) has =
    semaphores_follow t s programs h acc
    (weaker t (UsesGroup gs (groups.Semaphore s)) (UsesSemaphore s) (uses_semaphore gs s) programs (each_uses t gs (groups.Semaphore s) programs are has confined)) runs
group_follows t gs programs h are confined acc runs (groups.Both s) has =
    both_follows t s (is_semaphore_sequencer s (semaphores_of gs)) programs h acc
    (weaker t (UsesGroup gs (groups.Both s)) (UsesBoth s (is_semaphore_sequencer s (semaphores_of gs))) (uses_both gs s) programs (each_uses t gs (groups.Both s) programs are has confined)) runs

-- THE PROGRAM OF EACH WORKER

program_confined : (gs : List Group) (programs : List (List Command)) (w : ℕ) → AreConfinedPrograms gs programs → IsConfinedProgram gs (program_at programs w)
program_confined gs [] w confined = tt
program_confined gs (cs ∷ programs) zero confined = confined.0
program_confined gs (cs ∷ programs) (suc w) confined = program_confined gs programs w confined.1

pub groups_follow : GroupsAreFollowed
groups_follow heading programs h is confined acc runs =
    let gs = heading.groups in
    let are : AreGroups heading.setup heading.groups = record { apart = heading_apart heading is; fit = heading_fits heading is; shaped = heading_shaped heading is } in
    All-weaker (Contains gs) (FollowsGroup heading.setup gs (reverse h))
    (group_follows heading.setup gs (program_at programs) h are (λ w. program_confined gs programs w confined) acc runs)
    gs (All-contains_itself gs)
