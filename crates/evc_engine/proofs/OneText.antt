-- One input has one audit text.
use Rattle.std.proofs.Common.{◌≡◌, ℕ, zero, suc, ◌+◌, ◌<◌, ◌≤◌, false, List, [], ◌∷◌, ◌++◌, length, map, reverse, Some, None, refl, sym, ap, ◌∙◌, subst, arith, slice_get}
use Rattle.std.specs.Prelude.{◌==◌, ◌||◌, nat_lt, Ok, codes}
use Rattle.std.proofs.lemmas.Option.{slice_get_within}
use Rattle.std.specs.List.{AllByRecursion, cons_option}
use Rattle.ec_count.specs.Tables.{Tables}
use Rattle.ec_core.specs.declared.act.Entry.{Entry}
use Rattle.ec_core.specs.Acceptance.{IsAccepted}
use Rattle.ec_buffer.specs.Shapes.{Buffer, IsShape, next_buffer, buffer_fault, lacks_room}
use Rattle.ec_buffer.proofs.shared.OneList as deliveries
use Rattle.ec_count.specs.Tables.{IsDeclared}
use Rattle.ec_count.proofs.shared.Disjoint.{roles_of}
use Rattle.std.proofs.lemmas.Bool.{or_parts, ne_eqb, ltb-false}
use Rattle.ec_core.proofs.shared.Breaks.{follow_or_break}
use Rattle.ec_database.specs.Shapes.{Database}
use Rattle.ec_database.proofs.shared.OneList as tries
use Rattle.ec_order.proofs.shared.Matching.{at_index}
use Rattle.ec_semaphore.specs.Shapes.{Semaphore}
use Rattle.ec_semaphore.specs.declared.parts.Balance.{Balance}
use Rattle.ec_heading.specs.Objects.{group_of_declaration}
use Rattle.ec_heading.specs.HeaderTree.{Declaration, HeaderTree, IsHeaderTree, AreDeclarable, empty_heading, with_declaration, with_declarations, heading_of_tree, objects_fault}
use Rattle.ec_heading.specs.declared.decl_kind.DeclKind.{DeclKind}
use Rattle.ec_heading.specs.declared.decl_kind.DeclKind.TheVariants as sorts
use Rattle.ec_heading.specs.Spelling.{lines_text}
use Rattle.ec_heading.proofs.shared.Each.{each_append}
use Rattle.ec_heading.proofs.shared.ReadHeadings.{sound, is_declared}
use Rattle.ec_heading.specs.HeadingModel.{HeadingModel}
use Rattle.ec_trace.specs.TraceModel.{TraceModel}
use Rattle.ec_heading.specs.declared.group.Group.{Group}
use Rattle.ec_heading.specs.declared.group.Group.TheVariants as groups
use Rattle.evc_engine.specs.declared.audit_result.AuditResult.{AuditResult}
use Rattle.evc_engine.specs.declared.audit_result.AuditResult.TheVariants as audits
use Rattle.evc_engine.specs.AuditTexts.{balance_of, group_word, delivery_line, version_line, balance_line, pair_line, semaphore_word, audited_lines, groups_lines, audit_text}
use Rattle.evc_engine.specs.AuditLaws.{AuditsHaveOneText, TextOrBreak}
use Rattle.ec_heading.specs.Rules.{group_rules}
use Rattle.evc_engine.specs.Audits.{IsAudited, AreAudited}
use Rattle.evc_engine.specs.Checks.{ReadsAs}

-- SHAPES

-- a buffer has the shape of one that was declared
abbrev HasShape : Group → Type 0
HasShape (groups.Buffer b) = IsShape b
HasShape g = Unit {0}

next_shape : (t : Tables) (n : ℕ) (ws vs : List ℕ) → buffer_fault t n ws vs ≡ None → IsShape (next_buffer t n)
next_shape t n ws vs none =
    let roles = roles_of t (lacks_room t n) ws vs (n == 0) none in
    let room = or_parts (nat_lt 32 (length t.events + 2) || nat_lt 32 (length t.takers + 2)) (nat_lt 256 (length t.cells + n)) roles.0 in
    record {
      counts = apart (length t.events);
      sequencers = apart (length t.takers);
      some = positive n roles.1;
      room = within (length t.cells + n) room.1;
    }
  where
    apart : (k : ℕ) → (k == k + 1) ≡ false
    apart k = ne_eqb k (k + 1) (λ e. absurd (omega arith))

    positive : (k : ℕ) → (k == 0) ≡ false → 0 < k
    positive zero e = cc
    positive (suc k) e = omega arith

    within : (k : ℕ) → nat_lt 256 k ≡ false → k ≤ 256
    within k e = ltb-false 256 k e

new_shape : (s : DeclKind) (t : Tables) (n : ℕ) (ws vs : List ℕ) → objects_fault s t n ws vs ≡ None → AllByRecursion HasShape (cons_option (group_of_declaration s t n) [])
new_shape sorts.EventCount t n ws vs none = tt
new_shape sorts.Sequencer t n ws vs none = tt
new_shape sorts.Cells t n ws vs none = tt
new_shape sorts.Buffer t n ws vs none = (next_shape t n ws vs none, tt)
new_shape sorts.Database t n ws vs none = (tt, tt)
new_shape sorts.Semaphore t n ws vs none = (tt, tt)
new_shape sorts.Both t n ws vs none = (tt, tt)

all_shapes : (h : HeadingModel) (ds : List Declaration) → AllByRecursion HasShape h.groups → AreDeclarable h ds → AllByRecursion HasShape (with_declarations h ds).groups
all_shapes h [] have may = have
all_shapes h (d ∷ ds) have may =
    all_shapes (with_declaration h d) ds
    (each_append HasShape h.groups (cons_option (group_of_declaration d.sort h.setup d.number) []) have (new_shape d.sort h.setup d.number d.first d.second may.0.taken))
    may.1

-- ONE TEXT

-- a header and a history that a trace may have
record IsRead (h : HeadingModel) (entries : List Entry) : Type 0 where
  declared : IsDeclared h.setup
  accepted : IsAccepted h.setup (reverse entries)
  shapes : AllByRecursion HasShape h.groups

is_read : (bytes : List ℕ) (t : TraceModel) → ReadsAs bytes t → IsRead t.heading t.entries
is_read bytes t reads =
    let o : HeaderTree = reads.trace.outline in
    let is : IsHeaderTree o = reads.trace.trace.heading in
    subst (λ h. IsRead h t.entries) reads.trace.declares
    (record {
      declared = is_declared (heading_of_tree o) (sound o is);
      accepted = reads.trace.trace.accepted;
      shapes = all_shapes (empty_heading o.version o.limit o.workers) o.declarations tt is.declarations;
    })

module _ (h : HeadingModel) (entries : List Entry) (read : IsRead h entries) where
  -- the lines of what was found are the same, by the sort of the group
  delivered : (b : Buffer) (name : List ℕ) (a c : AuditResult) → HasShape (groups.Buffer b) → IsAudited h entries (groups.Buffer b) a → IsAudited h entries (groups.Buffer b) c
      → audited_lines h name a ≡ audited_lines h name c
  delivered b name (audits.Deliveries xs) (audits.Deliveries ys) shape p q =
      ap (map (delivery_line h.words name))
      (deliveries.determined h.setup b entries (record { declared = read.declared; shape = shape; accepted = read.accepted; followed = p.0 }) xs.items ys.items p.1 q.1)
  delivered b name (audits.Deliveries xs) c shape p q = absurd q.1
  delivered b name a c shape p q = absurd p.1

  returned : (d : Database) (name : List ℕ) (a c : AuditResult) → IsAudited h entries (groups.Database d) a → IsAudited h entries (groups.Database d) c → audited_lines h name a ≡ audited_lines h name c
  returned d name (audits.Versions xs) (audits.Versions ys) p q = ap (map (version_line h.words name)) (tries.determined h.setup d entries xs.list ys.list p.1.0 q.1.0)
  returned d name (audits.Versions xs) c p q = absurd q.1
  returned d name a c p q = absurd p.1

  one_balance : (name : List ℕ) (a c : Balance) (m n : ℕ) → a ≡ c → m ≡ n → balance_line name a m ≡ balance_line name c n
  one_balance name a c m n same now = ap (λ b. balance_line name b m) same ∙ ap (balance_line name c) now

  balanced : (s : Semaphore) (name : List ℕ) (a c : AuditResult) → IsAudited h entries (groups.Semaphore s) a → IsAudited h entries (groups.Semaphore s) c → audited_lines h name a ≡ audited_lines h name c
  balanced s name (audits.Balances a m) (audits.Balances c n) p q = ap (λ l. l ∷ []) (one_balance name a c m n (p.1.0 ∙ sym q.1.0) (p.1.1 ∙ ap balance_of (p.1.0 ∙ sym q.1.0) ∙ sym q.1.1))
  balanced s name (audits.Balances a m) c p q = absurd q.1
  balanced s name a c p q = absurd p.1

  paired : (s : Semaphore) (name : List ℕ) (a c : AuditResult) → IsAudited h entries (groups.Both s) a → IsAudited h entries (groups.Both s) c → audited_lines h name a ≡ audited_lines h name c
  paired s name (audits.Pairs a m xs) (audits.Pairs c n ys) p q =
      ap (λ l. l ∷ map (pair_line h.words (semaphore_word h.names 0 h.groups)) xs.items) (one_balance name a c m n (p.1.0 ∙ sym q.1.0) (p.1.1 ∙ ap balance_of (p.1.0 ∙ sym q.1.0) ∙ sym q.1.1))
      ∙ ap (λ l. balance_line name c n ∷ map (pair_line h.words (semaphore_word h.names 0 h.groups)) l) (p.1.2 ∙ sym q.1.2)
  paired s name (audits.Pairs a m xs) c p q = absurd q.1
  paired s name a c p q = absurd p.1

  same_lines : (g : Group) (name : List ℕ) (a c : AuditResult) → HasShape g → IsAudited h entries g a → IsAudited h entries g c → audited_lines h name a ≡ audited_lines h name c
  same_lines (groups.Buffer b) name a c shape p q = delivered b name a c shape p q
  same_lines (groups.Database d) name a c shape p q = returned d name a c p q
  same_lines (groups.Semaphore s) name a c shape p q = balanced s name a c p q
  same_lines (groups.Both s) name a c shape p q = paired s name a c p q

  -- what was found of each of these groups
  abbrev Each : List Group → List AuditResult → Type 0
  Each gs found = (i : ℕ) (g : Group) (a : AuditResult) → slice_get gs i ≡ Some g → slice_get found i ≡ Some a → IsAudited h entries g a

  same_text : (i : ℕ) (gs : List Group) (found other : List AuditResult) → AllByRecursion HasShape gs → length found ≡ length gs → length other ≡ length gs → Each gs found → Each gs other
      → groups_lines h i found ≡ groups_lines h i other
  unfolding groups_lines
  same_text i [] [] [] shapes l m p q = refl
  same_text i (g ∷ gs) (a ∷ found) (c ∷ other) shapes l m p q =
      ap (λ x. x ++ groups_lines h (i + 1) found) (same_lines g (group_word h.names i) a c shapes.0 (p 0 g a refl refl) (q 0 g c refl refl))
      ∙ ap (λ x. audited_lines h (group_word h.names i) c ++ x)
      (same_text (i + 1) gs found other shapes.1 (omega arith) (omega arith) (λ j g' a' at got. p (suc j) g' a' at got) (λ j g' a' at got. q (suc j) g' a' at got))
  same_text i gs found other shapes l m p q = absurd (omega arith)

  whole_text : (found other : List AuditResult) → AreAudited h entries found → AreAudited h entries other → audit_text h found ≡ audit_text h other
  unfolding audit_text
  whole_text found other p q =
      ap (λ x. lines_text (codes "evc-audit 1" ∷ x ++ codes "end" ∷ [])) (same_text 0 h.groups found other read.shapes p.all q.all p.each q.each)

-- one input is read as one header and one history
pub one_reading : (bytes : List ℕ) (t u : TraceModel) → ReadsAs bytes t → ReadsAs bytes u → t ≡ u
one_reading bytes t u p q = (let same : Ok t ≡ Ok u = sym p.returned ∙ q.returned in cc)

pub one_text : AuditsHaveOneText
one_text bytes t u found other p q finds does =
    let same : u ≡ t = one_reading bytes u t q p in
    let again : AreAudited t.heading t.entries other = subst (λ r. AreAudited r.heading r.entries other) same does in
    whole_text t.heading t.entries (is_read bytes t p) found other finds again ∙ ap (λ r. audit_text r.heading other) (sym same)

pub text_or_break : TextOrBreak
text_or_break t found i w k finds not =
    let inside = slice_get_within t.heading.groups i not.group not.is in
    let long : i < length found = (let all : length found ≡ length t.heading.groups = finds.all in omega arith) in
    let at = at_index found i long in
    follow_or_break (group_rules t.heading.setup t.heading.groups not.group) t.entries w k not.breaks (finds.each i not.group at.0 not.is at.1).0
