-- Versions: which limits and which acts each allows, and its first line.
use Rattle.std.proofs.Common.{◌≡◌, ◌≢◌, ℕ, ◌<◌, ◌≤◌, ◌^◌, List, [], ◌∷◌, cond, true, false, Some, None, refl, sym, ap, ◌∙◌, arith, nat_le}
use Rattle.std.specs.Prelude.{bytes_eq}
use Rattle.std.specs.List.{AllByRecursion}
use Rattle.std.proofs.lemmas.Bool.{and_parts, and_from, le-leb, leb-true}
use Rattle.std.proofs.lemmas.List.Elements.{All-from_recursion}
use Rattle.std.proofs.lemmas.Slice.Eq.{bytes_eq-Decides}
use Rattle.ec_core.specs.declared.act.Act.{Act}
use Rattle.ec_core.specs.declared.act.Act.TheVariants.{Hand}
use Rattle.ec_core.specs.declared.act.Entry.{Entry}
use Rattle.ec_heading.specs.declared.version.Version.{Version}
use Rattle.ec_heading.specs.declared.version.Version.TheVariants.{One, Two}
use Rattle.ec_heading.specs.Versions.{greatest_limit, is_limit, can_spell, CanSpellAll, version_of}

-- LIMITS

-- no version may have a limit of 2 ^ 48 or more
pub limit_low : (v : Version) (n : ℕ) → n ≤ greatest_limit v → n < 2 ^ 48
limit_low One n h = omega arith
limit_low Two n h = omega arith

-- a limit that some version allows, version 2 allows
pub limit_grows : (v : Version) (n : ℕ) → n ≤ greatest_limit v → n ≤ greatest_limit Two
limit_grows One n h = omega arith
limit_grows Two n h = h

pub limit_parts : (v : Version) (n : ℕ) → is_limit v n ≡ true → (1 ≤ n) × (n ≤ greatest_limit v)
limit_parts v n is = (let p = and_parts (nat_le 1 n) (nat_le n (greatest_limit v)) is in (leb-true 1 n p.0, leb-true n (greatest_limit v) p.1))

pub limit_from : (v : Version) (n : ℕ) → 1 ≤ n → n ≤ greatest_limit v → is_limit v n ≡ true
limit_from v n low high = and_from (nat_le 1 n) (nat_le n (greatest_limit v)) (le-leb 1 n low) (le-leb n (greatest_limit v) high)

-- ACTS

pub two_spells : (act : Act) → can_spell Two act ≡ true
two_spells (Hand e b) = refl
two_spells _ = refl

two_spells_each : (entries : List Entry) → AllByRecursion (λ (e : Entry). can_spell Two e.act ≡ true) entries
two_spells_each [] = tt
two_spells_each (e ∷ entries) = (two_spells e.act, two_spells_each entries)

-- version 2 allows every act
pub two_spells_all : (entries : List Entry) → CanSpellAll Two entries
two_spells_all entries = All-from_recursion (λ (e : Entry). can_spell Two e.act ≡ true) entries (two_spells_each entries)

-- FIRST LINES

-- a line that has a version is the first line of that version
pub version_back : (header : Version → List ℕ) (line : List ℕ) (v : Version) → version_of header line ≡ Some v → line ≡ header v
version_back header line v is =
    (elim (bytes_eq line (header One)) as (λ b. bytes_eq line (header One) ≡ b → cond b (Some One) (cond (bytes_eq line (header Two)) (Some Two) None) ≡ Some v → line ≡ header v) [
      | true ↦ λ e h. (let same : One ≡ v = cc in (bytes_eq-Decides line (header One)).0 e ∙ ap header same)
      | false ↦ λ e h.
          (elim (bytes_eq line (header Two)) as (λ b. bytes_eq line (header Two) ≡ b → cond b (Some Two) None ≡ Some v → line ≡ header v) [
            | true ↦ λ f g. (let same : Two ≡ v = cc in (bytes_eq-Decides line (header Two)).0 f ∙ ap header same)
            | false ↦ λ f g. cc
          ]) refl h
    ]) refl is

-- a line that has no version is the first line of none
pub version_none : (header : Version → List ℕ) (line : List ℕ) → version_of header line ≡ None → (v : Version) → line ≢ header v
version_none header line none One same =
    let first : version_of header line ≡ Some One = ap (λ b. cond b (Some One) (cond (bytes_eq line (header Two)) (Some Two) None)) ((bytes_eq-Decides line (header One)).1 same) in
    (let e : None ≡ Some One = sym none ∙ first in cc)
version_none header line none Two same =
    (elim (bytes_eq line (header One)) as (λ b. cond b (Some One) (cond (bytes_eq line (header Two)) (Some Two) None) ≡ None → ⊥) [
      | true ↦ λ e. cc
      | false ↦ λ e.
          (let second : cond (bytes_eq line (header Two)) (Some Two) None ≡ Some Two = ap (λ b. cond b (Some Two) None) ((bytes_eq-Decides line (header Two)).1 same) in
          (let f : None ≡ Some Two = sym e ∙ second in cc))
    ]) none

-- and a line that is the first line of none has no version
pub version_none_from : (header : Version → List ℕ) (line : List ℕ) → ((v : Version) → line ≢ header v) → version_of header line ≡ None
version_none_from header line other =
    (elim (version_of header line) as (λ o. version_of header line ≡ o → o ≡ None) [
      | None ↦ λ e. refl
      | Some v ↦ λ e. absurd (other v (version_back header line v e))
    ]) refl
