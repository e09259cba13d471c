-- The letter of every position, drive and end, as its character code: 76 is L, 82 is R, 78 is N, 84 is T, 45 is -.
-- position_letter  what a leg shows
-- drive_letter     how a leg is driven
-- end_letter       where a point can go
use Rattle.std.specs.Prelude.{ℕ}
use Rattle.legs.specs.declared.position.Position.{Position}
use Rattle.legs.specs.declared.position.Position.TheVariants as position
use Rattle.legs.specs.declared.drive.Drive.{Drive}
use Rattle.legs.specs.declared.drive.Drive.TheVariants as drive
use Rattle.legs.specs.declared.end.End.{End}
use Rattle.legs.specs.declared.end.End.TheVariants as end

abbrev pub position_letter : Position → ℕ
position_letter position.Left = 76
position_letter position.Right = 82
position_letter position.NoEndPosition = 78
position_letter position.Trailed = 84

abbrev pub drive_letter : Drive → ℕ
drive_letter drive.Left = 76
drive_letter drive.Right = 82
drive_letter drive.Off = 45

abbrev pub end_letter : End → ℕ
end_letter end.Left = 76
end_letter end.Right = 82
