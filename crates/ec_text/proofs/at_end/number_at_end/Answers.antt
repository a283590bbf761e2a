use Rattle.std.proofs.Common.{rules, arith, ◌≡◌, ◌-◌, true, get_or}
use Rattle.std.specs.Char.{is_ascii_digit}
use Rattle.ec_text.proofs.EndLemmas.{IsRead, is_read, only_digits}
use Rattle.ec_text.proofs.at_end.number_at_end.Goals as goal

pub overflow_mul-number : goal.overflow_mul-number
overflow_mul-number c =
    let text = c.args.text.now in
    let i = c.loop-place.place in
    let digit : is_ascii_digit (get_or text (i - 1) 0) ≡ true = search rules in
    let value : c.from.result ≡ get_or text (i - 1) 0 - 48 = search rules in
    let r : IsRead text i c.loop-place.number c.loop-place.weight c.from.result = is_read text i _ _ _ (omega arith) (omega arith) (omega arith) c.loop-place.invariant.digits c.loop-place.invariant.weight digit value in
    omega (arith, r.digit_small)

pub overflow_add-number : goal.overflow_add-number
overflow_add-number c =
    let text = c.args.text.now in
    let i = c.loop-place.place in
    let digit : is_ascii_digit (get_or text (i - 1) 0) ≡ true = search rules in
    let value : c.from.result ≡ get_or text (i - 1) 0 - 48 = search rules in
    let r : IsRead text i c.loop-place.number c.loop-place.weight c.from.result = is_read text i _ _ _ (omega arith) (omega arith) (omega arith) c.loop-place.invariant.digits c.loop-place.invariant.weight digit value in
    omega (arith, r.digit_small, r.number_small)

pub overflow_mul-weight : goal.overflow_mul-weight
overflow_mul-weight c =
    let text = c.args.text.now in
    let i = c.loop-place.place in
    let digit : is_ascii_digit (get_or text (i - 1) 0) ≡ true = search rules in
    let value : c.from.result ≡ get_or text (i - 1) 0 - 48 = search rules in
    let r : IsRead text i c.loop-place.number c.loop-place.weight c.from.result = is_read text i _ _ _ (omega arith) (omega arith) (omega arith) c.loop-place.invariant.digits c.loop-place.invariant.weight digit value in
    omega (arith, r.weight_small)

pub loop-place-preserved : goal.loop-place-preserved
loop-place-preserved c =
    let text = c.args.text.now in
    let i = c.loop-place.place in
    let digit : is_ascii_digit (get_or text (i - 1) 0) ≡ true = search rules in
    let value : c.from.result ≡ get_or text (i - 1) 0 - 48 = search rules in
    let r : IsRead text i c.loop-place.number c.loop-place.weight c.from.result = is_read text i _ _ _ (omega arith) (omega arith) (omega arith) c.loop-place.invariant.digits c.loop-place.invariant.weight digit value in
    record { digits = r.digits; weight = r.weight_more }

pub returns-clause-none : goal.returns-clause-none
returns-clause-none c none q m ends = only_digits c.args.text.now c.loop-place.place _ q m (omega arith) c.loop-place.invariant.digits ends
