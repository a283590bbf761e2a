-- The objects of groups, and the acts that are on them.
use Rattle.std.proofs.Common.{◌≡◌, ◌⊎◌, inl, inr, ℕ, zero, suc, ◌<◌, Bool, true, false, ◌||◌, ◌==◌, List, [], ◌∷◌, length, Some, slice_index_or, refl, sym, ◌∙◌, ap, subst, arith}
use Rattle.std.specs.List.{Contains, list_any}
use Rattle.std.proofs.lemmas.Bool.{eq-eqb, or_parts}
use Rattle.ec_core.specs.declared.act.Act.{Act}
use Rattle.ec_core.specs.declared.act.Act.TheVariants.{Advance, Read, Await, Go, Ticket, Put, Get, Hand}
use Rattle.ec_buffer.specs.Shapes.{Buffer}
use Rattle.ec_buffer.specs.Follows as buffers
use Rattle.ec_database.specs.Shapes.{Database}
use Rattle.ec_database.specs.Following as databases
use Rattle.ec_semaphore.specs.Shapes.{Semaphore}
use Rattle.ec_semaphore.specs.Uses as semaphores
use Rattle.ec_heading.specs.declared.group.Group.{Group}
use Rattle.ec_heading.specs.declared.group.Group.TheVariants as groups
use Rattle.ec_heading.specs.Groups.{both_of, has_event, has_sequencer, has_cell}
use Rattle.ec_heading.specs.Rules.{semaphores_of}
use Rattle.ec_script_theorems.proofs.Tests.{or_first, same_test}
use Rattle.ec_semaphore.proofs.shared.Implying.{fits_or as or_second}

-- MEMBERS OF A LIST

pub later_there : {X : Type 0} (x y : X) (xs : List X) → Contains xs y → Contains (x ∷ xs) y
later_there x y xs c = (suc c.0, omega (arith, c.1), c.2)

there_at : {X : Type 0} (x y : X) (xs : List X) (k : ℕ) → k < length (x ∷ xs) → slice_index_or (x ∷ xs) k y ≡ y → (x ≡ y) ⊎ Contains xs y
there_at x y xs zero within at = inl at
there_at x y xs (suc k) within at = inr (k, omega (arith, within), at)

pub there_cases : {X : Type 0} (x y : X) (xs : List X) → Contains (x ∷ xs) y → (x ≡ y) ⊎ Contains xs y
there_cases x y xs c = there_at x y xs c.0 c.1 c.2

none_there : {X : Type 0} (y : X) → Contains [] y → ⊥
none_there y c = absurd (omega (arith, c.1))

-- THE OBJECTS OF ACTS

-- whether an act names an object of the group
abbrev pub acts_on : Group → Act → Bool
acts_on g (Advance e) = has_event g e
acts_on g (Read e) = has_event g e
acts_on g (Await e v) = has_event g e
acts_on g Go = false
acts_on g (Ticket q) = has_sequencer g q
acts_on g (Put x v) = has_cell g x
acts_on g (Get x) = has_cell g x
acts_on g (Hand e b) = has_event g e

same_tests : (e m n : ℕ) → (e == m || e == n) ≡ (m == e || n == e)
same_tests e m n = ap (λ b. b || e == n) (same_test e m) ∙ ap (λ b. m == e || b) (same_test e n)

pub on_buffer : (b : Buffer) (act : Act) → buffers.is_on b act ≡ acts_on (groups.Buffer b) act
on_buffer b (Advance e) = same_tests e b.in_count b.out_count
on_buffer b (Read e) = same_tests e b.in_count b.out_count
on_buffer b (Await e v) = same_tests e b.in_count b.out_count
on_buffer b Go = refl
on_buffer b (Ticket q) = same_tests q b.put_seq b.take_seq
on_buffer b (Put x v) = refl
on_buffer b (Get x) = refl
on_buffer b (Hand e c) = same_tests e b.in_count b.out_count

pub on_database : (d : Database) (act : Act) → databases.is_on d act ≡ acts_on (groups.Database d) act
on_database d (Advance e) = same_tests e d.start d.done
on_database d (Read e) = same_tests e d.start d.done
on_database d (Await e v) = same_tests e d.start d.done
on_database d Go = refl
on_database d (Ticket q) = same_test q d.turn
on_database d (Put x v) = refl
on_database d (Get x) = refl
on_database d (Hand e b) = same_tests e d.start d.done

pub on_semaphore : (s : Semaphore) (act : Act) → semaphores.is_on s act ≡ acts_on (groups.Semaphore s) act
on_semaphore s (Advance e) = same_test e s.count
on_semaphore s (Read e) = same_test e s.count
on_semaphore s (Await e v) = same_test e s.count
on_semaphore s Go = refl
on_semaphore s (Ticket q) = same_test q s.line
on_semaphore s (Put x v) = refl
on_semaphore s (Get x) = refl
on_semaphore s (Hand e b) = same_test e s.count

pub on_both : (s : Semaphore) (act : Act) → semaphores.is_on s act ≡ acts_on (groups.Both s) act
on_both s (Advance e) = same_test e s.count
on_both s (Read e) = same_test e s.count
on_both s (Await e v) = same_test e s.count
on_both s Go = refl
on_both s (Ticket q) = same_test q s.line
on_both s (Put x v) = refl
on_both s (Get x) = refl
on_both s (Hand e b) = same_test e s.count

-- GROUPS THAT ARE APART

-- no act is on two groups
abbrev pub AreApart : List Group → Type 0
AreApart gs = (act : Act) (k g : Group) → Contains gs k → Contains gs g → acts_on k act ≡ true → acts_on g act ≡ true → k ≡ g

-- an eventcount of the group
count_of : Group → ℕ
count_of (groups.Buffer b) = b.in_count
count_of (groups.Database d) = d.start
count_of (groups.Semaphore s) = s.count
count_of (groups.Both s) = s.count

has_its_count : (g : Group) → acts_on g (Advance (count_of g)) ≡ true
unfolding count_of
has_its_count (groups.Buffer b) = or_first (b.in_count == b.in_count) (b.out_count == b.in_count) (eq-eqb b.in_count b.in_count refl)
has_its_count (groups.Database d) = or_first (d.start == d.start) (d.done == d.start) (eq-eqb d.start d.start refl)
has_its_count (groups.Semaphore s) = eq-eqb s.count s.count refl
has_its_count (groups.Both s) = eq-eqb s.count s.count refl

-- of two groups that are apart: what is on the one is not on the other
pub not_on : (gs : List Group) (k g : Group) (act : Act) → AreApart gs → Contains gs k → Contains gs g → (k ≡ g → ⊥) → acts_on k act ≡ true → acts_on g act ≡ false
not_on gs k g act apart has_k has_g differ on =
    elim (acts_on g act) as (λ b. acts_on g act ≡ b → b ≡ false) [
      | true ↦ λ is. absurd (differ (apart act k g has_k has_g on is))
      | false ↦ λ is. refl
    ] refl

pub same_or_not : (gs : List Group) (k g : Group) → AreApart gs → Contains gs k → Contains gs g → (k ≡ g) ⊎ (k ≡ g → ⊥)
same_or_not gs k g apart has_k has_g =
    let act = Advance (count_of k) in
    elim (acts_on g act) as (λ b. acts_on g act ≡ b → (k ≡ g) ⊎ (k ≡ g → ⊥)) [
      | true ↦ λ is. inl (apart act k g has_k has_g (has_its_count k) is)
      | false ↦ λ is. inr (λ e. (let on : acts_on g act ≡ true = subst (λ x. acts_on x act ≡ true) e (has_its_count k) in let clash : false ≡ true = sym is ∙ on in cc))
    ] refl

-- a test that no group of a list passes is passed by none of them
pub none_passes : (test : Group → Bool) (gs : List Group) (g : Group) → list_any test gs ≡ false → Contains gs g → test g ≡ false
none_passes test [] g none has = absurd (none_there g has)
none_passes test (k ∷ gs) g none has =
    let parts = or_parts (test k) (list_any test gs) none in
    elim (there_cases k g gs has) [
      | inl is ↦ subst (λ x. test x ≡ false) is parts.0
      | inr later ↦ none_passes test gs g parts.1 later
    ]

-- THE COMMON SEMAPHORE AND THE OTHERS

pub semaphore_listed : (gs : List Group) (s : Semaphore) → Contains gs (groups.Semaphore s) → list_any (λ (u : Semaphore). u.line == s.line) (semaphores_of gs) ≡ true
semaphore_listed [] s has = absurd (none_there (groups.Semaphore s) has)
semaphore_listed (groups.Buffer b ∷ gs) s has =
    elim (there_cases (groups.Buffer b) (groups.Semaphore s) gs has) [ inl is ↦ cc | inr later ↦ semaphore_listed gs s later ]
semaphore_listed (groups.Database d ∷ gs) s has =
    elim (there_cases (groups.Database d) (groups.Semaphore s) gs has) [ inl is ↦ cc | inr later ↦ semaphore_listed gs s later ]
semaphore_listed (groups.Both u ∷ gs) s has =
    elim (there_cases (groups.Both u) (groups.Semaphore s) gs has) [ inl is ↦ cc | inr later ↦ semaphore_listed gs s later ]
semaphore_listed (groups.Semaphore u ∷ gs) s has =
    let others = list_any (λ (v : Semaphore). v.line == s.line) (semaphores_of gs) in
    elim (there_cases (groups.Semaphore u) (groups.Semaphore s) gs has) [
      | inl is ↦ (let same : u ≡ s = cc in or_first (u.line == s.line) others (eq-eqb u.line s.line (ap (λ (v : Semaphore). v.line) same)))
      | inr later ↦ or_second (u.line == s.line) others (semaphore_listed gs s later)
    ]
