-- What a point remembers from call to call.
-- new_state       out of service, connection down, nothing told, no movement open
-- connection_number, same_connection   the states of the connection, in the order in which it is made
-- is_up           the connection is up
-- news            a position is another than the one last told, if one was
-- with_service, with_connection, with_told, with_movement   the state with this part changed
use Rattle.std.specs.Prelude.{ℕ, Bool, true, not, Some, None, Option, ◌==◌}
use Rattle.legs.specs.declared.position.Position.{Position}
use Rattle.legs.specs.Combined.{same_position}
use Rattle.state.specs.declared.service.Service.{Service}
use Rattle.state.specs.declared.state.Connection.{Connection}
use Rattle.state.specs.declared.state.Connection.TheVariants.{Down, Checked, Reporting, Up}
use Rattle.state.specs.declared.state.Movement.{Movement}
use Rattle.state.specs.declared.state.State.{State}

abbrev pub new_state : State
new_state = record { service = None; connection = Down; told = None; movement = None }

abbrev pub connection_number : Connection → ℕ
connection_number Down = 0
connection_number Checked = 1
connection_number Reporting = 2
connection_number Up = 3

abbrev pub same_connection : Connection → Connection → Bool
same_connection c d = connection_number c == connection_number d

abbrev pub is_up : State → Bool
is_up s = same_connection s.connection Up

abbrev pub news : Position → Option Position → Bool
news p None = true
news p (Some q) = not (same_position q p)

abbrev pub with_service : Service → State → State
with_service v s = record s { service = Some v }

abbrev pub with_connection : Connection → State → State
with_connection c s = record s { connection = c }

abbrev pub with_told : Position → State → State
with_told p s = record s { told = Some p }

abbrev pub with_movement : Option Movement → State → State
with_movement m s = record s { movement = m }
