-- What the start of service fixes.
-- longest_limit     the longest limit that can be asked for, in ticks
-- profile_number    the number of a profile: 0 reports neither trailed positions nor timeouts, 1 reports both
-- profile_asked     the profile with a number, if there is one
-- no_such_profile  what is said of a number that no profile has
-- service_of        a service with this limit, if it can be used, and this profile, if there is one
-- service_asked     what the two arguments of a start ask for, if they can be used: a limit of 1 to 600 ticks, and a profile
-- reported          a position as a profile reports it: trailed is no end position in profile 0
use Rattle.std.specs.Prelude.{ℕ, ◌&&◌, Some, None, Option, ◌==◌, nat_le, if◌then◌else◌}
use Rattle.legs.specs.declared.position.Position.{Position}
use Rattle.legs.specs.declared.position.Position.TheVariants.{NoEndPosition, Trailed}
use Rattle.legs.specs.Combined.{same_position}
use Rattle.state.specs.declared.service.NoSuchProfile.{NoSuchProfile}
use Rattle.state.specs.declared.service.Profile.{Profile}
use Rattle.state.specs.declared.service.Profile.TheVariants.{Basic, Extended}
use Rattle.state.specs.declared.service.Service.{Service}

abbrev pub longest_limit : ℕ
longest_limit = 600

abbrev pub profile_number : Profile → ℕ
profile_number Basic = 0
profile_number Extended = 1

abbrev pub profile_asked : ℕ → Option Profile
profile_asked n = if n == profile_number Basic then Some Basic else if n == profile_number Extended then Some Extended else None

abbrev pub no_such_profile : NoSuchProfile
no_such_profile = record {}

abbrev pub service_of : ℕ → Option Profile → Option Service
service_of a None = None
service_of a (Some p) = if nat_le 1 a && nat_le a longest_limit then Some (record { limit = a; profile = p }) else None

abbrev pub service_asked : ℕ → ℕ → Option Service
service_asked a b = service_of a (profile_asked b)

abbrev pub reported : Profile → Position → Position
reported Basic p = if same_position p Trailed then NoEndPosition else p
reported Extended p = p
