-- The lists of a database by their numbers.
use Rattle.std.proofs.Common.{◌≡◌, ℕ, List, [], ◌∷◌, Some, refl, sym, ap, ◌∙◌, subst}
use Rattle.std.proofs.Common.{replicate}
use Rattle.calls_core.specs.declared.history.Kind.TheVariants.{Database}
use Rattle.calls_core.specs.declared.history.Op.{Op}
use Rattle.calls_core.specs.declared.history.Op.TheVariants.{Put, Get}
use Rattle.calls_core.specs.declared.history.Reply.{Reply}
use Rattle.calls_core.specs.declared.history.Reply.TheVariants.{Done, Number}
use Rattle.calls_core.specs.declared.history.Call.{Call}
use Rattle.calls_core.specs.Linearizations.{Gives, after, set_at, IsLegalHistory, initial}
use Rattle.calls_local.specs.Databases.{ListCall, Write, Snapshot, IsListRun, AreNumbered}
use Rattle.calls_local.specs.Databases.{AreDistinctNumbers, ListsGoByNumbers, DatabasesGoByNumbers}

-- a call and the ones after it are a legal sequential history
abbrev Goes : (ℕ → ℕ) → List Call → Op → Reply → Type 0
Goes m cs op r = Gives m op r × IsLegalHistory (after m op r) cs

moved : (m : ℕ → ℕ) (cs : List Call) (o p : Op) (r s : Reply) → o ≡ p → r ≡ s → Goes m cs o r
    → Goes m cs p s
moved m cs o p r s a b h = subst (λ z. Goes m cs z s) a (subst (λ z. Goes m cs o z) b h)

same_number : (u v : ℕ) → Number u ≡ Number v → u ≡ v
same_number u v e = cc

module _ (f : List ℕ → ℕ) (distinct : AreDistinctNumbers f) where
  to_numbers : (m : ℕ → ℕ) (vs : List ℕ) → m 0 ≡ f vs → (ls : List ListCall) (cs : List Call)
      → AreNumbered f ls cs → IsListRun vs ls → IsLegalHistory m cs
  to_numbers m vs e [] [] n h = tt
  to_numbers m vs e [] (c ∷ cs) n h = absurd n
  to_numbers m vs e (l ∷ ls) [] n h = absurd n
  to_numbers m vs e (Write us ∷ ls) (c ∷ cs) n h =
      moved m cs (Put (f us)) c.op Done c.reply (sym n.0.0) (sym n.0.1)
      (refl, to_numbers (set_at 0 (f us) m) us refl ls cs n.1 h)
  to_numbers m vs e (Snapshot us ∷ ls) (c ∷ cs) n h =
      moved m cs Get c.op (Number (f us)) c.reply (sym n.0.0) (sym n.0.1)
      (ap Number (ap f h.0 ∙ sym e), to_numbers m vs e ls cs n.1 h.1)

  to_lists : (m : ℕ → ℕ) (vs : List ℕ) → m 0 ≡ f vs → (ls : List ListCall) (cs : List Call)
      → AreNumbered f ls cs → IsLegalHistory m cs → IsListRun vs ls
  to_lists m vs e [] [] n h = tt
  to_lists m vs e [] (c ∷ cs) n h = absurd n
  to_lists m vs e (l ∷ ls) [] n h = absurd n
  to_lists m vs e (Write us ∷ ls) (c ∷ cs) n h =
      let g = moved m cs c.op (Put (f us)) c.reply Done n.0.0 n.0.1 h in
      to_lists (set_at 0 (f us) m) us refl ls cs n.1 g.1
  to_lists m vs e (Snapshot us ∷ ls) (c ∷ cs) n h =
      let g = moved m cs c.op Get c.reply (Number (f us)) n.0.0 n.0.1 h in (
        distinct us vs (same_number (f us) (m 0) g.0 ∙ e),
        to_lists m vs e ls cs n.1 g.1,
      )

pub lists_go_by_numbers : ListsGoByNumbers
lists_go_by_numbers = λ f distinct m vs e ls cs n. (
  to_numbers f distinct m vs e ls cs n,
  to_lists f distinct m vs e ls cs n,
)

pub databases_go_by_numbers : DatabasesGoByNumbers
databases_go_by_numbers = λ f distinct n zeros ls cs k.
    lists_go_by_numbers f distinct (initial (Some (Database n))) (replicate n 0) (sym zeros) ls cs k
