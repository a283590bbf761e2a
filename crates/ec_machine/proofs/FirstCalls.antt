-- What a command asks for first, and what its values are.
use Rattle.std.proofs.Common.{◌≡◌, ℕ, ◌≤◌, List, [], ◌∷◌, IsSome, Bool, true, false, ◌||◌, refl, arith, map, zero, suc, eqb-true, sym, ◌∙◌, ap, subst}
use Rattle.std.specs.List.{All, list_any}
use Rattle.std.proofs.lemmas.Bool.{ltb-false}
use Rattle.ec_core.specs.declared.act.TheConstants.{VALUE_MAX}
use Rattle.ec_machine.specs.declared.command.Command.{Command}
use Rattle.ec_machine.specs.declared.command.Command.TheOpen.{Command-F}
use Rattle.ec_machine.specs.declared.command.Command.TheOpen as layer
use Rattle.ec_machine.specs.declared.command.Command.TheVariants.{rolls-Advance, rolls-Read, rolls-Await, rolls-Ticket, rolls-Put, rolls-Get, rolls-Hand, rolls-Produce, rolls-Consume, rolls-WriteAll, rolls-Snapshot, rolls-Down, rolls-Up, rolls-DownBoth}
use Rattle.ec_machine.specs.declared.command.Value.{Value}
use Rattle.ec_machine.specs.declared.command.Command.TheViews.{roll-Command, out-Command, roll-out-Command}
use Rattle.ec_machine.specs.declared.command.Command.TheFolds.{fold-roll-Command}
use Rattle.ec_machine.specs.Limits.{nesting_one, nesting_step}
use Rattle.ec_machine.specs.Unrolled.{is_single}
use Rattle.ec_machine.specs.Values.{eval, is_large}
use Rattle.ec_machine.specs.Runs.{command_call}

abbrev Asks : ℕ → Command → Type 0
Asks last c = IsSome (command_call last c [])

asks_roll : (last : ℕ) (d : Command-F Command) → is_single (roll-Command d) ≡ true → Asks last (roll-Command d)
asks_roll last (layer.Advance e) single = subst (Asks last) (sym (rolls-Advance e)) refl
asks_roll last (layer.Read e) single = subst (Asks last) (sym (rolls-Read e)) refl
asks_roll last (layer.Await e v) single = subst (Asks last) (sym (rolls-Await e v)) refl
asks_roll last (layer.Ticket q) single = subst (Asks last) (sym (rolls-Ticket q)) refl
asks_roll last (layer.Put x v) single = subst (Asks last) (sym (rolls-Put x v)) refl
asks_roll last (layer.Get x) single = subst (Asks last) (sym (rolls-Get x)) refl
asks_roll last (layer.Hand e b) single = subst (Asks last) (sym (rolls-Hand e b)) refl
asks_roll last (layer.Produce b v) single = subst (Asks last) (sym (rolls-Produce b v)) refl
asks_roll last (layer.Consume b) single = subst (Asks last) (sym (rolls-Consume b)) refl
asks_roll last (layer.WriteAll d vs) single = subst (Asks last) (sym (rolls-WriteAll d vs)) refl
asks_roll last (layer.Snapshot d tries) single = subst (Asks last) (sym (rolls-Snapshot d tries)) refl
asks_roll last (layer.Down s) single = subst (Asks last) (sym (rolls-Down s)) refl
asks_roll last (layer.Up s) single = subst (Asks last) (sym (rolls-Up s)) refl
asks_roll last (layer.DownBoth common one other) single = subst (Asks last) (sym (rolls-DownBoth common one other)) refl
asks_roll last (layer.Repeat n block) single =
    let one : 0 ≡ nesting_one (roll-Command (layer.Repeat n block)) = eqb-true _ _ single in
    absurd (omega (arith, one ∙ fold-roll-Command ℕ nesting_step (layer.Repeat n block)))

-- each command has a first call
pub asks : (last : ℕ) (c : Command) → is_single c ≡ true → Asks last c
asks last c single = let e = roll-out-Command c in subst (Asks last) e (asks_roll last (out-Command c) (ap is_single e ∙ single))

or_false : (a b : Bool) → (a || b) ≡ false → (a ≡ false) × (b ≡ false)
or_false true b is = cc
or_false false b is = (refl, is)

-- if none is too large, each is at most VALUE_MAX
pub all_small : (last : ℕ) (vs : List Value) → list_any (is_large last) vs ≡ false → All (λ v. v ≤ VALUE_MAX) (map (eval last) vs)
all_small last [] none k d within = absurd (omega (arith, within))
all_small last (v ∷ vs) none zero d within = ltb-false _ _ (or_false (is_large last v) (list_any (is_large last) vs) none).0
all_small last (v ∷ vs) none (suc k) d within = all_small last vs (or_false (is_large last v) (list_any (is_large last) vs) none).1 k d (omega (arith, within))
