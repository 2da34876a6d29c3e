use Rattle.std.proofs.Common.{sym, ap, subst}
use Rattle.std.specs.Result.{result_ok}
use Rattle.base64.specs.Engines.{standard}
use Rattle.base64.specs.GeneralPurpose.{IsDecodeFailure, decoded_of}
use Rattle.users.proofs.fields.decoded.Goals as goal

pub returns-in-Ok : goal.returns-in-Ok
unfolding decoded_of
returns-in-Ok c = sym (ap result_ok c.in-Ok.ensures.ok)

pub returns-in-Err-DecodeError : goal.returns-in-Err-DecodeError
unfolding decoded_of
returns-in-Err-DecodeError c =
    let failed = subst (IsDecodeFailure standard c.args.text.now) c.in-Err-DecodeError.field-0-is c.in-Err-DecodeError.ensures.err in
    sym (ap result_ok failed)
