-- What a contract says of writers that had some contents at first, stated of empty writers.
use Rattle.std.proofs.Common.{◌≡◌, inl, inr, ℕ, Bool, false, length, List, [], ◌++◌, Option, None, Some, codes, refl, sym, ap, ◌∙◌, take, append-nil, subst, Ok, true≢false}
use Rattle.std.specs.Io.KnownBytes.{Appends, Keeps}
use Rattle.ec_text.specs.Puts.{AppendsPrefix, OutputModel, at_first, IsWrittenOut}
use Rattle.ec_text.proofs.shared.PutLemmas.{puts_written}
use Rattle.evc_engine.specs.declared.status.Status.TheVariants.{Done, Refused, InputOutput, Memory}
use Rattle.evc_engine.specs.Checks.{Checks, text_for}
use Rattle.evc_engine.specs.Audits.{Audits}
use Rattle.evc_engine.specs.AuditTexts.{audit_text}
use Rattle.evc_engine.specs.Upgrades.{Upgrades}
use Rattle.evc_cli.specs.declared.choice.Task.{Task}
use Rattle.evc_cli.specs.declared.choice.Task.TheVariants.{Check, Audit, Upgrade, Sim, Run}
use Rattle.evc_scripts.specs.Sims.{Sims}
use Rattle.evc_scripts.specs.Tasks.{Does}
use Rattle.calls_report.specs.declared.status.Status as calls
use Rattle.calls_report.specs.declared.status.Status.TheVariants as ends
use Rattle.calls_report.specs.Checks as calls_checks
use Rattle.calls_report.specs.Checks.{ChecksText, IsTooLarge, IsNothingRead, texts_of}
use Rattle.evc_c.specs.Answers.{ContractBy, Contract, AnswersBy, CallsAnswers, IsCode, outputs, calls_outputs}
use Rattle.evc_c.specs.Rooms.{room_holds, FillsBy}
use Rattle.evc_c.specs.declared.room.Room.{Room}

-- THE TEXT

-- the bytes that were there are a prefix of those that are there now, and the rest satisfies P
abbrev pub Grown : List ℕ → List ℕ → (List ℕ → Type 0) → Type 0
Grown a c P = (w : List ℕ) × (c ≡ a ++ w) × P w

module _ {P : List ℕ → Type 0} (a c : List ℕ) where
  kept : Keeps (Some a) (Some c) → ((w : List ℕ) → Keeps (Some []) (Some w) → P w) → Grown a c P
  kept e so = ([], e ∙ sym (append-nil a), so [] refl)

  appended : (bs : List ℕ) → Appends (Some a) (Some c) bs → ((w : List ℕ) → Appends (Some []) (Some w) bs → P w) → Grown a c P
  appended bs e so = (bs, e, so bs refl)

  fronted : (bs : List ℕ) → AppendsPrefix (Some a) (Some c) bs → ((w : List ℕ) → AppendsPrefix (Some []) (Some w) bs → P w) → Grown a c P
  fronted bs p so = (p.0, p.3, so p.0 (p.0, p.1, p.2, refl, p.4))

-- THE COMMANDS

-- what a command wrote follows what was there, and is what the command would have written to an
-- empty writer
abbrev pub GrowsAt : {S O : Type 0} → (List ℕ → OutputModel → O) → ContractBy S O → List ℕ → Option (List ℕ) → S → (first last : OutputModel) → List ℕ → List ℕ
    → Type 0
GrowsAt outputs Does bytes left status first last a c = Grown a c (λ w. Does bytes left status (outputs [] first) (outputs w last))

abbrev pub GrowsBy : {S O : Type 0} → (List ℕ → OutputModel → O) → ContractBy S O → Type 0
GrowsBy {S} {O} outputs Does = (bytes : List ℕ) (left : Option (List ℕ)) (status : S) (first last : OutputModel) (a c : List ℕ)
    → Does bytes left status (outputs a first) (outputs c last) → GrowsAt outputs Does bytes left status first last a c

abbrev pub Grows : Contract → Type 0
Grows Does = GrowsBy outputs Does

check_grows : Grows Checks
check_grows bytes left Done first last a c p = appended a c (text_for p.0) p.2.0 (λ w out. (p.0, p.1, (out, p.2.1, p.2.2)))
check_grows bytes left Refused first last a c p = kept a c p.2 (λ w out. (p.0, p.1, out, p.3))
check_grows bytes left InputOutput first last a c (inl p) = fronted a c (text_for p.0) p.2.0 (λ w out. inl (p.0, p.1, (out, p.2.1)))
check_grows bytes left InputOutput first last a c (inr p) = kept a c p.1 (λ w out. inr (p.0, out, p.2))
check_grows bytes left Memory first last a c p = kept a c p.0 (λ w out. (out, p.1))
check_grows bytes left status first last a c p = absurd p

audit_grows : Grows Audits
audit_grows bytes left Done first last a c p =
    appended a c (audit_text p.0.heading p.2.found) p.2.writes.0 (λ w out. (p.0, p.1, record { found = p.2.found; audited = p.2.audited; writes = (out, p.2.writes.1) }))
audit_grows bytes left Refused first last a c (inl p) =
    kept a c p.2.out (λ w out. inl (p.0, p.1, record { group = p.2.group; worker = p.2.worker; entry = p.2.entry; breaks = p.2.breaks; out = out; note = p.2.note }))
audit_grows bytes left Refused first last a c (inr p) = kept a c p.2 (λ w out. inr (p.0, p.1, out, p.3))
audit_grows bytes left InputOutput first last a c (inl p) =
    fronted a c (audit_text p.0.heading p.2.found) p.2.writes.0 (λ w out. inl (p.0, p.1, record { found = p.2.found; audited = p.2.audited; writes = (out, p.2.writes.1) }))
audit_grows bytes left InputOutput first last a c (inr p) = kept a c p.1 (λ w out. inr (p.0, out, p.2))
audit_grows bytes left Memory first last a c p = kept a c p.0 (λ w out. (out, p.1))
audit_grows bytes left status first last a c p = absurd p

upgrade_grows : Grows Upgrades
upgrade_grows bytes left Done first last a c p = appended a c p.1 p.3 (λ w out. (p.0, p.1, p.2, out, p.4))
upgrade_grows bytes left Refused first last a c p = kept a c p.2 (λ w out. (p.0, p.1, out, p.3))
upgrade_grows bytes left InputOutput first last a c (inl p) = fronted a c p.1 p.3 (λ w out. inl (p.0, p.1, p.2, out, p.4))
upgrade_grows bytes left InputOutput first last a c (inr p) = kept a c p.1 (λ w out. inr (p.0, out, p.2))
upgrade_grows bytes left Memory first last a c p = kept a c p.0 (λ w out. (out, p.1))
upgrade_grows bytes left status first last a c p = absurd p

sim_grows : Grows Sims
sim_grows bytes left Done first last a c p = appended a c p.2.0 p.2.3 (λ w out. (p.0, p.1, (p.2.0, p.2.1, p.2.2, out, p.2.4), p.3))
sim_grows bytes left Refused first last a c (inl p) = kept a c p.2.3 (λ w out. inl (p.0, p.1, (p.2.0, p.2.1, p.2.2, out, p.2.4), p.3))
sim_grows bytes left Refused first last a c (inr p) = kept a c p.3 (λ w out. inr (p.0, p.1, p.2, out, p.4, p.5))
sim_grows bytes left InputOutput first last a c (inl p) = fronted a c p.2.0 p.2.3 (λ w out. inl (p.0, p.1, (p.2.0, p.2.1, p.2.2, out, p.2.4), p.3))
sim_grows bytes left InputOutput first last a c (inr p) = kept a c p.0 (λ w out. inr (out, p.1, p.2))
sim_grows bytes left Memory first last a c p = kept a c p.0 (λ w out. (out, p.1))
sim_grows bytes left status first last a c p = absurd p

pub task_grows : (task : Task) → ((turns : ℕ) → task ≡ Run turns → ⊥) → Grows (Does task)
task_grows Check alone = check_grows
task_grows Audit alone = audit_grows
task_grows Upgrade alone = upgrade_grows
task_grows Sim alone = sim_grows
task_grows (Run turns) alone = absurd (alone turns refl)

-- HISTORIES OF CALLS

text_grows : (status : calls.Status) (bytes : List ℕ) (first last : OutputModel) (a c : List ℕ)
    → ChecksText status bytes (calls_outputs a first) (calls_outputs c last)
    → Grown a c (λ w. ChecksText status bytes (calls_outputs [] first) (calls_outputs w last))
text_grows ends.InputOutput bytes first last a c p = fronted a c (texts_of p.1) p.4 (λ w out. (p.0, p.1, p.2, p.3, out, p.5))
text_grows status bytes first last a c p = appended a c (texts_of p.0) p.2 (λ w out. (p.0, p.1, out))

large_grows : (status : calls.Status) (bytes : List ℕ) (first last : OutputModel) (a c : List ℕ)
    → IsTooLarge status bytes (calls_outputs a first) (calls_outputs c last)
    → Grown a c (λ w. IsTooLarge status bytes (calls_outputs [] first) (calls_outputs w last))
large_grows ends.Refused bytes first last a c p = kept a c p.1 (λ w out. (p.0, out, p.2))
large_grows status bytes first last a c p = absurd p

unread_grows : (status : calls.Status) (bytes : List ℕ) (left : Option (List ℕ)) (first last : OutputModel) (a c : List ℕ)
    → IsNothingRead status bytes left (calls_outputs a first) (calls_outputs c last)
    → Grown a c (λ w. IsNothingRead status bytes left (calls_outputs [] first) (calls_outputs w last))
unread_grows ends.InputOutput bytes left first last a c p = kept a c p.1 (λ w out. (p.0, out, p.2))
unread_grows ends.Memory bytes left first last a c p = kept a c p.0 (λ w out. (out, p.1))
unread_grows status bytes left first last a c p = absurd p

pub calls_check_grows : GrowsBy calls_outputs calls_checks.Checks
calls_check_grows bytes left status first last a c (inl p) =
    let out = text_grows status bytes first last a c p.1 in
    (out.0, out.1, inl (p.0, out.2))
calls_check_grows bytes left status first last a c (inr (inl p)) =
    let out = large_grows status bytes first last a c p in
    (out.0, out.1, inr (inl out.2))
calls_check_grows bytes left status first last a c (inr (inr p)) =
    let out = unread_grows status bytes left first last a c p in
    (out.0, out.1, inr (inr out.2))

-- THE CALLER'S BUFFERS

-- a buffer in which nothing was written, and what was then written in it
grown : (r new : Room) (w : List ℕ) → r.len ≡ 0 → room_holds new ≡ room_holds r ++ w → (new.bytes.ghost_name ≡ r.bytes.ghost_name) × (take new.len new.bytes.now ≡ w)
grown r new w none e =
    let name : new.bytes.ghost_name ≡ r.bytes.ghost_name = cc in
    let rest : take new.len new.bytes.now ≡ take r.len r.bytes.now ++ w = cc in
    (name, rest ∙ ap (λ (n : ℕ). take n r.bytes.now ++ w) none)

pub fills : {S O : Type 0} (outputs : List ℕ → OutputModel → O) (Does : ContractBy S O) → GrowsBy outputs Does
    → (bytes : List ℕ) (left : Option (List ℕ)) (status : S) (first last : OutputModel) (r new : Room)
    → r.len ≡ 0 → Does bytes left status (outputs (room_holds r) first) (outputs (room_holds new) last) → (IsWrittenOut first → IsWrittenOut last)
    → FillsBy outputs Does bytes status r new first last
fills outputs Does grows bytes left status first last r new empty p written =
    let done = grows bytes left status first last (room_holds r) (room_holds new) p in
    let out = grown r new done.0 empty done.1 in
    record {
      same = out.0;
      left = left;
      ends = subst (λ (w : List ℕ). Does bytes left status (outputs [] first) (outputs w last)) (sym out.1) done.2;
      written = written;
    }

-- what is returned then, for the caller's bytes
pub answers : {S O : Type 0} (code_of : S → ℕ) (outputs : List ℕ → OutputModel → O) (Does : ContractBy S O) (bytes : List ℕ) (status : S) (code given : ℕ) (is_cut : Bool) (many : ℕ)
    (r new : Room) (writer : ℕ) (first last : OutputModel) (start noted text notes : List ℕ) (m n room : ℕ)
    → FillsBy outputs Does bytes status r new first last → first ≡ at_first writer (Some start) → start ≡ [] → Some noted ≡ last.contents
    → text ≡ new.bytes.now → m ≡ new.len → IsCode code given is_cut many room → given ≡ code_of status → is_cut ≡ last.failed → many ≡ length noted → take n notes ≡ take room noted
    → AnswersBy code_of outputs Does bytes code (take m text) (take n notes) room
answers code_of outputs Does bytes status code given is_cut many r new writer first last start noted text notes m n room f at none holds is len is_code by cut long returned =
    let e : first ≡ at_first writer (Some []) = at ∙ ap (λ (k : List ℕ). at_first writer (Some k)) none in
    let ends : Does bytes f.left status (outputs [] (at_first writer (Some []))) (outputs (take new.len new.bytes.now) last)
    = subst (λ (o : OutputModel). Does bytes f.left status (outputs [] o) (outputs (take new.len new.bytes.now) last)) e f.ends in
    record {
      status = status;
      left = f.left;
      writer = writer;
      last = last;
      ends = subst (λ (w : List ℕ). Does bytes f.left status (outputs [] (at_first writer (Some []))) (outputs w last)) (sym (ap (λ (k : ℕ). take k text) len ∙ ap (take new.len) is)) ends;
      written = subst (λ (o : OutputModel). IsWrittenOut o → IsWrittenOut last) e f.written (λ _. refl);
      noted = noted;
      holds = sym holds;
      returned = returned;
      is = subst (λ (k : ℕ). IsCode code (code_of status) last.failed k room) long
          (subst (λ (b : Bool). IsCode code (code_of status) b many room) cut (subst (λ (k : ℕ). IsCode code k is_cut many room) by is_code));
    }

-- memory ran out before anything was read
pub no_memory_answers : (bytes noted : List ℕ) (code room : ℕ) → code ≡ 4 → noted ≡ take room (codes "no memory\n") → CallsAnswers bytes code [] noted room
no_memory_answers bytes noted code room four copied = record {
  status = ends.Memory;
  left = None;
  writer = 0;
  last = record { writer = 0; contents = Some (codes "no memory\n"); waiting = []; failed = false };
  ends = inr (inr (refl, puts_written {E = ℕ} _ _ _ [] false (Ok tt) refl refl refl tt refl refl));
  written = λ _. refl;
  noted = codes "no memory\n";
  holds = refl;
  returned = copied;
  is = inr (four, λ e. absurd (true≢false (sym e)));
}
