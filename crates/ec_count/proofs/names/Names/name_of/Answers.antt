use Rattle.std.proofs.Common.{ℕ, List, Option, option_map, slice_get, sym, ap, ◌∙◌}
use Rattle.std.specs.Option.{option_and_then}
use Rattle.ec_count.specs.declared.target.Target.{Target}
use Rattle.ec_count.proofs.shared.Named.{name_at_place}
use Rattle.ec_count.proofs.names.Names.name_of.Goals as goal

-- the name at a position, from a table
abbrev first_at : List (List ℕ × Target) → Option ℕ → Option (List ℕ)
first_at names o = option_and_then (λ i. option_map (λ (e : List ℕ × Target). e.0) (slice_get names i)) o

pub returns-in_err-place : goal.returns-in_err-place
returns-in_err-place c =
    ap (option_map (λ name. name.now)) c.from_residual.ensures
    ∙ ap (first_at c.args.self.now) c.in_err-place.ensures
    ∙ sym (name_at_place c.args.target c.args.self.now)

pub returns-in-None : goal.returns-in-None
returns-in-None c =
    ap (option_map (λ (e : List ℕ × Target). e.0)) c.in-None.ensures
    ∙ ap (first_at c.args.self.now) (sym c.in_ok-place.was ∙ c.name_index.ensures)
    ∙ sym (name_at_place c.args.target c.args.self.now)

pub returns-in-Some : goal.returns-in-Some
returns-in-Some c =
    ap (option_map (λ (e : List ℕ × Target). e.0)) c.in-Some.ensures
    ∙ ap (first_at c.args.self.now) (sym c.in_ok-place.was ∙ c.name_index.ensures)
    ∙ sym (name_at_place c.args.target c.args.self.now)
