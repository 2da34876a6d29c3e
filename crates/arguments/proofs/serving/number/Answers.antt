-- The number is what the value of the option spells, and lies in the range.
use Rattle.std.proofs.Common.{◌∙◌, sym, arith}
use Rattle.std.specs.Str.Parse.{ExplainsUnsignedError, HasUnsignedDigitsIfOk, ParsesUnsigned}
use Rattle.clap.specs.Words.{found_of, one_text}
use Rattle.arguments.proofs.Read.{one_is}
use Rattle.arguments.proofs.Values.{number_spelled, spelled_once, same_text, spelled_read}
use Rattle.arguments.proofs.serving.number.Goals as goal

pub returns-in-Some : goal.returns-in-Some
returns-in-Some c =
    let found = found_of c.args.options.now in
    let read = number_spelled (λ bs r. ParsesUnsigned 32 10 bs r × ExplainsUnsignedError 10 bs r × HasUnsignedDigitsIfOk bs r)
    (one_text found c.args.id.now) c.in-Some.number c.in-Some.ensures.none c.in-Some.ensures.value (λ u r g. g.0) in
    record {
      text = read.0;
      value = one_is found c.args.id.now ∙ read.1;
      spelled = read.2;
      from = omega (arith, c.if-least-number.true);
      to = omega (arith, c.if-number-most.true);
    }

pub returns-in_default : goal.returns-in_default
returns-in_default c = λ number has.
    let found = found_of c.args.options.now in
    let read = number_spelled (λ bs r. ParsesUnsigned 32 10 bs r × ExplainsUnsignedError 10 bs r × HasUnsignedDigitsIfOk bs r)
    (one_text found c.args.id.now) c.in-Some.number c.in-Some.ensures.none c.in-Some.ensures.value (λ u r g. g.0) in
    let same = spelled_once _ _ number c.in-Some.number (same_text _ _ _ (sym (one_is found c.args.id.now) ∙ has.value) read.1) has.spelled read.2 in
    omega (arith, same, has.to, c.if-number-most.false)

pub returns-in_default-2 : goal.returns-in_default-2
returns-in_default-2 c = λ number has.
    let found = found_of c.args.options.now in
    let read = number_spelled (λ bs r. ParsesUnsigned 32 10 bs r × ExplainsUnsignedError 10 bs r × HasUnsignedDigitsIfOk bs r)
    (one_text found c.args.id.now) c.in-Some.number c.in-Some.ensures.none c.in-Some.ensures.value (λ u r g. g.0) in
    let same = spelled_once _ _ number c.in-Some.number (same_text _ _ _ (sym (one_is found c.args.id.now) ∙ has.value) read.1) has.spelled read.2 in
    omega (arith, same, has.from, c.if-least-number.false)

pub returns-in_default-3 : goal.returns-in_default-3
returns-in_default-3 c = λ number has.
    let found = found_of c.args.options.now in
    spelled_read (λ bs r. ParsesUnsigned 32 10 bs r × ExplainsUnsignedError 10 bs r × HasUnsignedDigitsIfOk bs r) has.text number
    (c.in_default.ensures.value has.text (sym (one_is found c.args.id.now) ∙ has.value)) (λ u r g. g.0) has.spelled (omega (arith, has.to, c.ranges.most.fits))
