-- The two ends.
-- drive_towards  the drive that moves a leg to an end
-- position_at    what a leg shows at an end
-- end_number     the number of an end as the argument of an order
-- end_asked      the end that a number names, if it names one
-- no_such_end    what is said of a number that names none
-- reached        whether a leg is where it is driven: the two letters are the same
use Rattle.std.specs.Prelude.{ℕ, Bool, Some, None, Option, ◌==◌, if◌then◌else◌}
use Rattle.legs.specs.declared.position.Position.{Position}
use Rattle.legs.specs.declared.position.Position.TheVariants as position
use Rattle.legs.specs.declared.drive.Drive.{Drive}
use Rattle.legs.specs.declared.drive.Drive.TheVariants as drive
use Rattle.legs.specs.declared.end.End.{End}
use Rattle.legs.specs.declared.end.End.TheVariants as end
use Rattle.legs.specs.declared.end.NoSuchEnd.{NoSuchEnd}
use Rattle.legs.specs.Letters.{drive_letter, position_letter}

abbrev pub drive_towards : End → Drive
drive_towards end.Left = drive.Left
drive_towards end.Right = drive.Right

abbrev pub position_at : End → Position
position_at end.Left = position.Left
position_at end.Right = position.Right

abbrev pub end_number : End → ℕ
end_number end.Left = 1
end_number end.Right = 2

abbrev pub end_asked : ℕ → Option End
end_asked a = if a == end_number end.Left then Some end.Left else if a == end_number end.Right then Some end.Right else None

abbrev pub no_such_end : NoSuchEnd
no_such_end = record {}

abbrev pub reached : Drive → Position → Bool
reached d p = drive_letter d == position_letter p
