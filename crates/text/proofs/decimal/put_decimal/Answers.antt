use mathlib.Core.Path.{◌≡◌, sym}
use mathlib.Core.List.{◌∷◌, []}
use native.Mathlib.Omega.{arith}
use lib.ListN.{length}
use Rattle.text.specs.Decimal.{decimal}
use Rattle.text.proofs.Decimals.{length-field}
use Rattle.text.proofs.Puts.{stored}
use Rattle.octets.proofs.Stores.{sets-append}
use Rattle.text.proofs.decimal.put_decimal.Goals as goal

pub returns : goal.returns
returns c =
    let a = c.args in
    let count : c.digits-count.result ≡ length (decimal a.n) = c.digits-count.ensures in
    let n = length-field a.n a.after in
    stored _ _ _ (omega arith) (omega arith)
    (rw (c.store.ensures, count) (sym (sets-append a.out.now a.at (decimal a.n) (a.after ∷ []))))
