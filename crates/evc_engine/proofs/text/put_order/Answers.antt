use Rattle.std.proofs.Common.{rules, ◌≡◌, ℕ, List, [], ◌∷◌, ◌++◌, ◌∙◌, append_assoc, append-nil, ap, subst, sym}
use Rattle.std.specs.List.{flat_map}
use Rattle.std.proofs.lemmas.List.Concat.{flat_map-append}
use Rattle.ec_text.specs.Puts.{Holds}
use Rattle.ec_text.proofs.shared.PutLemmas.{puts_then}
use Rattle.ec_order.specs.declared.linearized_entry.LinearizedEntry.{LinearizedEntry}
use Rattle.evc_engine.specs.Texts.{linearized_line}
use Rattle.evc_engine.proofs.text.put_order.Goals as goal

one_line_more : (line : LinearizedEntry → List ℕ) (ds : List LinearizedEntry) (d : LinearizedEntry) → flat_map line (ds ++ d ∷ []) ≡ flat_map line ds ++ line d
one_line_more line ds d = flat_map-append line ds (d ∷ []) ∙ ap (λ (r : List ℕ). flat_map line ds ++ r) (append-nil (line d))

pub loop-linearized-preserved : goal.loop-linearized-preserved
loop-linearized-preserved g c =
    let more = one_line_more (λ (d : LinearizedEntry). 10 ∷ linearized_line c.args.spellings.now d) c.loop-linearized.yielded c.in-Some.linearized in
    let next : c.loop-linearized.linearized-iterator ≡ c.in-Some.linearized ∷ c.next.new.self =
    search rules in
    record {
      put = λ first all h. subst (λ (bs : List ℕ). Holds first c.put_linearized.new.out (all ++ bs)) (sym more) (puts_then _ _ _ _ _ c.loop-linearized.invariant.put c.put_linearized.ensures first all h);
      order = append_assoc c.loop-linearized.yielded (c.in-Some.linearized ∷ []) c.next.new.self ∙ ap (λ (left : List LinearizedEntry). c.loop-linearized.yielded ++ left) (sym next) ∙ c.loop-linearized.invariant.order;
    }
