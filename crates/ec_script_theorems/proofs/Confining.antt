-- A confined command is of a group by its procedures, or apart from the group.
use Rattle.std.proofs.Common.{◌≡◌, ◌≢◌, ◌⊎◌, inl, inr, ℕ, ◌<◌, true, false, not, ◌==◌, List, [], ◌∷◌, All, Some, None, refl, sym, ◌∙◌, ap, subst}
use Rattle.std.specs.List.{Contains, list_any}
use Rattle.std.proofs.lemmas.Bool.{eq-eqb, ne_eqb, and_from}
use Rattle.std.proofs.lemmas.List.Elements.{All-contains}
use Rattle.ec_count.specs.Tables.{Tables}
use Rattle.ec_core.specs.declared.act.Act.{Act}
use Rattle.ec_core.specs.declared.act.Act.TheVariants as acts
use Rattle.ec_core.specs.CallLists.{reply_number}
use Rattle.ec_core.specs.Following.{CompletedCall}
use Rattle.ec_buffer.specs.Shapes as buffers
use Rattle.ec_buffer.specs.Shapes.{Buffer}
use Rattle.ec_database.specs.Snapshots.{trying}
use Rattle.ec_semaphore.specs.Shapes.{Semaphore}
use Rattle.ec_semaphore.specs.Uses.{threshold, down_call, up_call, is_on}
use Rattle.ec_semaphore.specs.Both.{is_semaphore_sequencer, down_both_call}
use Rattle.ec_machine.specs.declared.command.Command.{Command, Produce, Consume, WriteAll, Snapshot, Down, Up, DownBoth}
use Rattle.ec_machine.specs.declared.command.Command.TheOpen.{Command-F}
use Rattle.ec_machine.specs.declared.command.Command.TheOpen as layer
use Rattle.ec_machine.specs.declared.command.Command.TheVariants.{rolls-Advance, rolls-Read, rolls-Await, rolls-Ticket, rolls-Put, rolls-Get, rolls-Hand, rolls-Produce, rolls-Consume, rolls-WriteAll, rolls-Snapshot, rolls-Down, rolls-Up, rolls-DownBoth, rolls-Repeat}
use Rattle.ec_machine.specs.declared.command.Command.TheViews.{roll-Command, out-Command, roll-out-Command}
use Rattle.ec_machine.specs.Values.{eval, values_of}
use Rattle.ec_machine.specs.Runs.{one_call, command_call}
use Rattle.ec_heading.specs.declared.group.Group.{Group}
use Rattle.ec_heading.specs.declared.group.Group.TheVariants as groups
use Rattle.ec_heading.specs.Groups.{FitsGroup}
use Rattle.ec_script.specs.Confined.{UsesGroups}
use Rattle.ec_script_theorems.specs.Uses.{IsApart, IsOfBuffer, IsOfDatabase, IsOfSemaphore, IsOfBoth, AreSeparate, AreThree}
use Rattle.ec_heading.specs.Rules.{semaphores_of}
use Rattle.ec_script_theorems.proofs.Suiting.{at_op}
use Rattle.ec_script_theorems.proofs.Semaphores.{on_line, on_wait, on_advance}
use Rattle.ec_script_theorems.proofs.Tests.{other_way}
use Rattle.ec_script_theorems.proofs.Buffers.{produce_on, consume_on}
use Rattle.ec_script_theorems.proofs.Databases.{write_on, try_on}
use Rattle.ec_script_theorems.proofs.Owned.{acts_on, AreApart, on_buffer, on_database, on_semaphore, on_both, same_or_not, not_on, none_passes, semaphore_listed}
use Rattle.ec_script.proofs.Commons.{both_there}

-- THE COMMANDS OF A GROUP

abbrev pub IsOfGroup : List Group → Group → Command → Type 0
IsOfGroup gs (groups.Buffer b) c = IsOfBuffer b c
IsOfGroup gs (groups.Database d) c = IsOfDatabase d c
IsOfGroup gs (groups.Semaphore s) c = IsOfSemaphore s c
IsOfGroup gs (groups.Both s) c = IsOfBoth s (is_semaphore_sequencer s (semaphores_of gs)) c

abbrev pub UsesGroup : List Group → Group → Command → Type 0
UsesGroup gs g c = IsOfGroup gs g c ⊎ IsApart (acts_on g) c

-- a buffer of the groups is a shape
abbrev pub IsShaped : Group → Type 0
IsShaped (groups.Buffer b) = buffers.IsShape b
IsShaped _ = Unit {0}

-- what is true of the groups of a header
pub record AreGroups (t : Tables) (gs : List Group) : Type 0 where
  pub apart : AreApart gs
  pub fit : All (FitsGroup t) gs
  pub shaped : All IsShaped gs

-- RAW COMMANDS

raw_apart : (gs : List Group) (g : Group) (act : Act) (calls : List CompletedCall) (op : Act) → Contains gs g → list_any (λ k. acts_on k act) gs ≡ false → one_call act calls ≡ Some op → acts_on g op ≡ false
raw_apart gs g act [] op has none is = at_op (λ a. acts_on g a ≡ false) act op is (none_passes (λ k. acts_on k act) gs g none has)
raw_apart gs g act (c ∷ calls) op has none is = cc

-- PROCEDURES OF ONE GROUP

-- each call of the command is on its own group k
procedure_uses : (t : Tables) (gs : List Group) (k g : Group) (c : Command) → AreGroups t gs → Contains gs k → Contains gs g → IsOfGroup gs k c
    → ((last : ℕ) (calls : List CompletedCall) (op : Act) → command_call last c calls ≡ Some op → acts_on k op ≡ true) → UsesGroup gs g c
procedure_uses t gs k g c are has_k has_g own within =
    elim (same_or_not gs k g are.apart has_k has_g) [
      | inl is ↦ inl (subst (λ x. IsOfGroup gs x c) is own)
      | inr differ ↦ inr (λ last calls op is. not_on gs k g op are.apart has_k has_g differ (within last calls op is))
    ]

some_cells : (t : Tables) (gs : List Group) (b : Buffer) → AreGroups t gs → Contains gs (groups.Buffer b) → 0 < b.cells
some_cells t gs b are has = (All-contains IsShaped gs (groups.Buffer b) are.shaped has).some

down_within : (s : Semaphore) (calls : List CompletedCall) (op : Act) → down_call s calls ≡ Some op → is_on s op ≡ true
down_within s [] op is = at_op (λ a. is_on s a ≡ true) (acts.Ticket s.line) op is (on_line s)
down_within s (t ∷ []) op is = at_op (λ a. is_on s a ≡ true) (acts.Await s.count (threshold s (reply_number t.reply))) op is (on_wait s (threshold s (reply_number t.reply)))
down_within s (t ∷ a ∷ rest) op is = cc

up_within : (s : Semaphore) (calls : List CompletedCall) (op : Act) → up_call s calls ≡ Some op → is_on s op ≡ true
up_within s [] op is = at_op (λ a. is_on s a ≡ true) (acts.Advance s.count) op is (on_advance s)
up_within s (v ∷ rest) op is = cc

-- P ON TWO SEMAPHORES

-- the call is on one of the three
abbrev IsOnThree : Semaphore → Semaphore → Semaphore → Act → Type 0
IsOnThree c one other op = (is_on c op ≡ true) ⊎ (is_on one op ≡ true) ⊎ (is_on other op ≡ true)

three_within : (c one other : Semaphore) (calls : List CompletedCall) (op : Act) → down_both_call c one other calls ≡ Some op → IsOnThree c one other op
three_within c one other [] op is = at_op (IsOnThree c one other) (acts.Ticket c.line) op is (inl (on_line c))
three_within c one other (t ∷ []) op is = at_op (IsOnThree c one other) (acts.Await c.count (reply_number t.reply)) op is (inl (on_wait c (reply_number t.reply)))
three_within c one other (t ∷ a ∷ []) op is = at_op (IsOnThree c one other) (acts.Ticket one.line) op is (inr (inl (on_line one)))
three_within c one other (t ∷ a ∷ r ∷ []) op is = at_op (IsOnThree c one other) (acts.Ticket other.line) op is (inr (inr (on_line other)))
three_within c one other (t ∷ a ∷ r ∷ s ∷ []) op is = at_op (IsOnThree c one other) (acts.Advance c.count) op is (inl (on_advance c))
three_within c one other (t ∷ a ∷ r ∷ s ∷ v ∷ []) op is =
    at_op (IsOnThree c one other) (acts.Await one.count (threshold one (reply_number r.reply))) op is (inr (inl (on_wait one (threshold one (reply_number r.reply)))))
three_within c one other (t ∷ a ∷ r ∷ s ∷ v ∷ b ∷ []) op is =
    at_op (IsOnThree c one other) (acts.Await other.count (threshold other (reply_number s.reply))) op is (inr (inr (on_wait other (threshold other (reply_number s.reply)))))
three_within c one other (t ∷ a ∷ r ∷ s ∷ v ∷ b ∷ d ∷ rest) op is = cc

-- two groups that differ share no eventcount and no sequencer
differ_count : (gs : List Group) (k g : Group) (n : ℕ) → AreApart gs → Contains gs k → Contains gs g → (k ≡ g → ⊥) → acts_on g (acts.Advance n) ≡ true → acts_on k (acts.Advance n) ≡ false
differ_count gs k g n apart has_k has_g differ on = not_on gs g k (acts.Advance n) apart has_g has_k (λ e. differ (sym e)) on

differ_line : (gs : List Group) (k g : Group) (n : ℕ) → AreApart gs → Contains gs k → Contains gs g → (k ≡ g → ⊥) → acts_on g (acts.Ticket n) ≡ true → acts_on k (acts.Ticket n) ≡ false
differ_line gs k g n apart has_k has_g differ on = not_on gs g k (acts.Ticket n) apart has_g has_k (λ e. differ (sym e)) on

guard_separate : (gs : List Group) (c s : Semaphore) → AreApart gs → Contains gs (groups.Both c) → Contains gs (groups.Semaphore s) → AreSeparate c s
guard_separate gs c s apart has_c has_s =
    let differ : groups.Both c ≡ groups.Semaphore s → ⊥ = λ e. cc in
    record {
      counts = differ_count gs (groups.Both c) (groups.Semaphore s) s.count apart has_c has_s differ (eq-eqb s.count s.count refl);
      lines = differ_line gs (groups.Both c) (groups.Semaphore s) s.line apart has_c has_s differ (eq-eqb s.line s.line refl);
    }

pair_separate : (gs : List Group) (r s : Semaphore) → AreApart gs → Contains gs (groups.Semaphore r) → Contains gs (groups.Semaphore s) → r.line ≢ s.line → AreSeparate r s
pair_separate gs r s apart has_r has_s lines =
    let differ : groups.Semaphore r ≡ groups.Semaphore s → ⊥ = λ e. lines (let same : r ≡ s = cc in ap (λ (u : Semaphore). u.line) same) in
    record {
      counts = differ_count gs (groups.Semaphore r) (groups.Semaphore s) s.count apart has_r has_s differ (eq-eqb s.count s.count refl);
      lines = ne_eqb r.line s.line lines;
    }

are_three : (t : Tables) (gs : List Group) (c one other : Semaphore) → AreGroups t gs → Contains gs (groups.Both c) → Contains gs (groups.Semaphore one) → Contains gs (groups.Semaphore other)
    → one.line ≢ other.line → AreThree c one other
are_three t gs c one other are has_c has_one has_other lines = record {
  initial = (All-contains (FitsGroup t) gs (groups.Both c) are.fit has_c).1;
  first = guard_separate gs c one are.apart has_c has_one;
  second = guard_separate gs c other are.apart has_c has_other;
  pair = pair_separate gs one other are.apart has_one has_other lines;
}

-- the sequencer of a semaphore is one that `both` may draw from
may_choose : (gs : List Group) (c s : Semaphore) → AreApart gs → Contains gs (groups.Both c) → Contains gs (groups.Semaphore s) → is_semaphore_sequencer c (semaphores_of gs) s.line ≡ true
may_choose gs c s apart has_c has_s =
    and_from (not (s.line == c.line)) (list_any (λ (u : Semaphore). u.line == s.line) (semaphores_of gs))
    (ap not (other_way c.line s.line (guard_separate gs c s apart has_c has_s).lines))
    (semaphore_listed gs s has_s)

three_uses : (t : Tables) (gs : List Group) (g : Group) (c one other : Semaphore) → AreGroups t gs → Contains gs g → Contains gs (groups.Both c) → Contains gs (groups.Semaphore one)
    → Contains gs (groups.Semaphore other) → one.line ≢ other.line → UsesGroup gs g (DownBoth c one other)
three_uses t gs g c one other are has_g has_c has_one has_other lines =
    let three = are_three t gs c one other are has_c has_one has_other lines in
    elim (same_or_not gs (groups.Both c) g are.apart has_c has_g) [
      | inl is ↦ inl (subst (λ x. IsOfGroup gs x (DownBoth c one other)) is (refl, three, may_choose gs c one are.apart has_c has_one, may_choose gs c other are.apart has_c has_other))
      | inr off_c ↦ elim (same_or_not gs (groups.Semaphore one) g are.apart has_one has_g) [
        | inl is ↦ inl (subst (λ x. IsOfGroup gs x (DownBoth c one other)) is (three, inr (inl refl)))
        | inr off_one ↦ elim (same_or_not gs (groups.Semaphore other) g are.apart has_other has_g) [
          | inl is ↦ inl (subst (λ x. IsOfGroup gs x (DownBoth c one other)) is (three, inr (inr refl)))
          | inr off_other ↦ inr (λ last calls op is.
              elim (three_within c one other calls op is) [
                | inl on ↦ not_on gs (groups.Both c) g op are.apart has_c has_g off_c (sym (on_both c op) ∙ on)
                | inr (inl on) ↦ not_on gs (groups.Semaphore one) g op are.apart has_one has_g off_one (sym (on_semaphore one op) ∙ on)
                | inr (inr on) ↦ not_on gs (groups.Semaphore other) g op are.apart has_other has_g off_other (sym (on_semaphore other op) ∙ on)
              ])
        ]
      ]
    ]

-- EACH COMMAND

rolled_uses : (t : Tables) (gs : List Group) (g : Group) → AreGroups t gs → Contains gs g → (d : Command-F Command) → UsesGroups gs d → UsesGroup gs g (roll-Command d)
rolled_uses t gs g are has (layer.Advance e) uses =
    subst (UsesGroup gs g) (sym (rolls-Advance e)) (inr (λ last calls op is. raw_apart gs g (acts.Advance e) calls op has uses is))
rolled_uses t gs g are has (layer.Read e) uses =
    subst (UsesGroup gs g) (sym (rolls-Read e)) (inr (λ last calls op is. raw_apart gs g (acts.Read e) calls op has uses is))
rolled_uses t gs g are has (layer.Await e v) uses =
    subst (UsesGroup gs g) (sym (rolls-Await e v)) (inr (λ last calls op is. raw_apart gs g (acts.Await e (eval last v)) calls op has uses is))
rolled_uses t gs g are has (layer.Ticket q) uses =
    subst (UsesGroup gs g) (sym (rolls-Ticket q)) (inr (λ last calls op is. raw_apart gs g (acts.Ticket q) calls op has uses is))
rolled_uses t gs g are has (layer.Put x v) uses =
    subst (UsesGroup gs g) (sym (rolls-Put x v)) (inr (λ last calls op is. raw_apart gs g (acts.Put x (eval last v)) calls op has uses is))
rolled_uses t gs g are has (layer.Get x) uses =
    subst (UsesGroup gs g) (sym (rolls-Get x)) (inr (λ last calls op is. raw_apart gs g (acts.Get x) calls op has uses is))
rolled_uses t gs g are has (layer.Hand e b) uses =
    subst (UsesGroup gs g) (sym (rolls-Hand e b)) (inr (λ last calls op is. raw_apart gs g (acts.Hand e b) calls op has uses is))
rolled_uses t gs g are has (layer.Produce b v) uses =
    subst (UsesGroup gs g) (sym (rolls-Produce b v))
    (procedure_uses t gs (groups.Buffer b) g (Produce b v) are uses has refl
    (λ last calls op is. sym (on_buffer b op) ∙ produce_on b (eval last v) (some_cells t gs b are uses) calls op is))
rolled_uses t gs g are has (layer.Consume b) uses =
    subst (UsesGroup gs g) (sym (rolls-Consume b))
    (procedure_uses t gs (groups.Buffer b) g (Consume b) are uses has refl
    (λ last calls op is. sym (on_buffer b op) ∙ consume_on b (some_cells t gs b are uses) calls op is))
rolled_uses t gs g are has (layer.WriteAll d vs) uses =
    subst (UsesGroup gs g) (sym (rolls-WriteAll d vs))
    (procedure_uses t gs (groups.Database d) g (WriteAll d vs) are uses has refl
    (λ last calls op is. sym (on_database d op) ∙ write_on d (values_of last vs.items) calls op is))
rolled_uses t gs g are has (layer.Snapshot d tries) uses =
    subst (UsesGroup gs g) (sym (rolls-Snapshot d tries))
    (procedure_uses t gs (groups.Database d) g (Snapshot d tries) are uses has refl
    (λ last calls op is. sym (on_database d op) ∙ try_on d (trying d tries calls).calls op is))
rolled_uses t gs g are has (layer.Down s) uses =
    subst (UsesGroup gs g) (sym (rolls-Down s))
    (procedure_uses t gs (groups.Semaphore s) g (Down s) are uses has refl (λ last calls op is. sym (on_semaphore s op) ∙ down_within s calls op is))
rolled_uses t gs g are has (layer.Up s) uses =
    subst (UsesGroup gs g) (sym (rolls-Up s))
    (procedure_uses t gs (groups.Semaphore s) g (Up s) are uses has refl (λ last calls op is. sym (on_semaphore s op) ∙ up_within s calls op is))
rolled_uses t gs g are has (layer.DownBoth c one other) uses =
    subst (UsesGroup gs g) (sym (rolls-DownBoth c one other)) (three_uses t gs g c one other are has (both_there gs c uses.0) uses.1 uses.2 uses.3)
rolled_uses t gs g are has (layer.Repeat n block) uses =
    subst (UsesGroup gs g) (sym (rolls-Repeat n block)) (inr (λ last calls op is. (let no : None ≡ Some op = is in cc)))

pub command_uses : (t : Tables) (gs : List Group) (g : Group) (c : Command) → AreGroups t gs → Contains gs g → UsesGroups gs (out-Command c) → UsesGroup gs g c
command_uses t gs g c are has uses = subst (UsesGroup gs g) (roll-out-Command c) (rolled_uses t gs g are has (out-Command c) uses)
