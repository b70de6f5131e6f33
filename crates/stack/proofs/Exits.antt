-- What the exits of a `?` answer.
--     err_is                an error that is handed on
--     had_some, had_none    what an option held, where `ok_or` turned it
use Rattle.std.specs.Prelude.{Option, Some, None, Result, Ok, Err}
use Rattle.std.specs.Result.{IsErrAnd}
use Rattle.std.specs.Option.{ok_or}
use Rattle.std.proofs.lemmas.Result.{err_from_is_err_and}
use mathlib.Core.Path.{◌≡◌, refl, ap, ◌∙◌}

pub err_is : {T E : Type 0} (r : Result T E) (e : E) → IsErrAnd r (λ (y : E). y ≡ e) → r ≡ Err e
err_is r e h =
    let p = err_from_is_err_and r h in
    p.1 ∙ ap Err p.2

module _ {T E : Type 0} where
  pub had_some : (o : Option T) (e : E) (r : Result T E) (x : T) → r ≡ ok_or o e → r ≡ Ok x → o ≡ Some x
  had_some (Some y) e r x h g = cc
  had_some None e r x h g = cc

  pub had_none :
      {U : Type 0} (o : Option T) (e d : E) (r : Result T E) (s : Result U E) → r ≡ ok_or o e → r ≡ Err d →
      IsErrAnd s (λ (y : E). y ≡ d) → (o ≡ None) × (s ≡ Err e)
  had_none (Some y) e d r s h g f = absurd (cc)
  had_none None e d r s h g f =
      let same : d ≡ e = cc in
      (refl, err_is s d f ∙ ap Err same)
