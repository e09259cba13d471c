-- What a model does in the long run.
-- InRange         the travel is 1 to 600 and the place lies within it
-- StaysInRange    a new model is in range, and so is one that was in range before any action
-- passes          so many ticks in a row
-- thrown          a model driven to an end, after so many ticks
-- ticks_to        how many places lie between a model and an end
-- shown_then      what a model shows that many ticks after it was driven to an end
-- Arrives         driven to an end, a model in range shows it from the tick on that takes the last of the places between,
--                 and not before
use Rattle.std.specs.Prelude.{◌≡◌, ℕ, zero, suc, ◌-◌, ◌<◌, ◌≤◌, ◌≢◌}
use Rattle.legs.specs.declared.end.End.{End}
use Rattle.legs.specs.declared.end.End.TheVariants.{Left, Right}
use Rattle.legs.specs.declared.position.Position.{Position}
use Rattle.machine.specs.Actions.{Action}
use Rattle.legs.specs.Ends.{drive_towards, position_at}
use Rattle.machine.specs.SingleLegs.{single_after}
use Rattle.makes.specs.declared.model.Model.{Model}
use Rattle.makes.specs.Model.{model_leg, new_model, model_driving, model_reading, model_passing}

pub record InRange (x : Model) : Type 0 where
  pub shortest : 1 ≤ x.travel
  pub longest : x.travel ≤ 600
  pub within : x.place ≤ x.travel

pub record StaysInRange : Type 0 where
  pub new : (travel : ℕ) → InRange (new_model travel)
  pub after : (a : Action) (x : Model) → InRange x → InRange (single_after model_driving model_reading model_passing a x)

abbrev pub passes : ℕ → Model → Model
passes zero x = x
passes (suc n) x = model_passing (passes n x)

abbrev pub thrown : End → ℕ → Model → Model
thrown e n x = passes n (model_driving (drive_towards e) x)

abbrev pub ticks_to : End → Model → ℕ
ticks_to Left x = x.place
ticks_to Right x = x.travel - x.place

abbrev pub shown_then : End → ℕ → Model → Position
shown_then e n x = (model_leg (thrown e n x)).shows

pub record Arrives : Type 0 where
  pub in_time : (e : End) (x : Model) (n : ℕ) → InRange x → ticks_to e x ≤ n → shown_then e n x ≡ position_at e
  pub not_before : (e : End) (x : Model) (n : ℕ) → InRange x → n < ticks_to e x → shown_then e n x ≢ position_at e
