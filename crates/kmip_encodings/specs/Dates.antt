-- A Date-Time (KMIP 1.0, 9.1.1.4) as a text of ISO 8601, as 2001-01-01T10:00:00+00:00. The number is the eight bytes of the signed seconds since 1970, as an unsigned number.
use Rattle.std.specs.Prelude.{ℕ, ◌+◌, ◌-◌, ◌*◌, ◌/◌, ◌%◌, ◌^◌, ◌==◌, ◌&&◌, ◌||◌, not, nat_lt, nat_le, Bool, true, false, List, [], ◌∷◌, ◌++◌, codes, Option, Some, None, option_map, option_and_then, if◌then◌else◌, bytes_eq, drop, length, slice_index}
use Rattle.std.specs.Char.{is_ascii_digit}
use Rattle.kmip_encodings.specs.declared.date.Civil.{Civil}

-- every fourth year, but of the centuries only every fourth
abbrev pub is_leap_year : ℕ → Bool
is_leap_year y = (y % 4 == 0) && (not (y % 100 == 0) || (y % 400 == 0))

-- thirty days have September, April, June and November
abbrev pub days_in_month : ℕ → ℕ → ℕ
days_in_month y m =
    if m == 2 then (if is_leap_year y then 29 else 28)
    else if (m == 4) || ((m == 6) || ((m == 9) || (m == 11))) then 30
    else 31

-- a date from the year 1 on, and a time of day
abbrev pub is_civil : Civil → Bool
is_civil c =
    nat_le 1 c.year && (nat_le 1 c.month && (nat_le c.month 12 && (nat_le 1 c.day && (nat_le c.day
    (days_in_month c.year c.month) && (nat_lt c.hour 24 && (nat_lt c.minute 60
    && nat_lt c.second 60))))))

-- the days before the first of the month, counted from 1 March of the year 0: a leap day is then
-- the last of its year
abbrev pub days_before : ℕ → ℕ → ℕ
days_before year month = 365 * year + year / 4 - year / 100 + year / 400 + (153 * month + 2) / 5

abbrev pub days_from_march : ℕ → ℕ → ℕ → ℕ
days_from_march y m d =
    if nat_lt m 3 then days_before (y - 1) (m + 9) + (d - 1) else days_before y (m - 3) + (d - 1)

-- 1970 began 719468 days after 1 March of the year 0
abbrev pub march_seconds : ℕ
march_seconds = 62162035200

abbrev pub civil_number : Civil → ℕ
civil_number c =
    (days_from_march c.year c.month c.day * 86400 + c.hour * 3600 + c.minute * 60 + c.second
    + (2 ^ 64 - march_seconds)) % 2 ^ 64

infixl 10 ◌>>=◌
abbrev ◌>>=◌ : {A B : Type 0} → Option A → (A → Option B) → Option B
o >>= f = option_and_then f o

-- the number of the two digits at a place
abbrev pub two_at : List ℕ → ℕ → Option ℕ
two_at text i =
    if is_ascii_digit (slice_index text i) && is_ascii_digit (slice_index text (i + 1))
    then Some ((slice_index text i - 48) * 10 + (slice_index text (i + 1) - 48)) else None

-- what is no digit: `-`, `-`, `T`, `:` and `:`
abbrev pub has_marks : List ℕ → Bool
has_marks text =
    nat_le 20 (length text) && ((slice_index text 4 == 45) && ((slice_index text 7 == 45)
    && ((slice_index text 10 == 84) && ((slice_index text 13 == 58)
    && (slice_index text 16 == 58)))))

-- seconds that are less than a day
abbrev pub seconds_of : ℕ → ℕ → Option ℕ
seconds_of hours minutes =
    if nat_lt hours 24 && nat_lt minutes 60 then Some (hours * 3600 + minutes * 60) else None

-- a place to the east, `+`, is ahead of UTC, and one to the west, `-`, behind it: whether it is to the
-- east, and by how many seconds
abbrev pub Zone : Type 0
Zone = Bool × ℕ

abbrev pub signed_zone : ℕ → ℕ → Option Zone
signed_zone sign seconds =
    if sign == 43 then Some (true, seconds)
    else if sign == 45 then Some (false, seconds)
    else None

-- `+00:00`, whose sign may be `-`
abbrev pub offset_in : List ℕ → Option Zone
offset_in rest = do
  hours ← two_at rest 1
  minutes ← two_at rest 4
  seconds ← seconds_of hours minutes
  signed_zone (slice_index rest 0) seconds

-- `Z` is UTC
unfoldable pub zone_of : List ℕ → Option Zone
zone_of rest =
    if bytes_eq rest (codes "Z") then Some (false, 0)
    else if (length rest == 6) && (slice_index rest 3 == 58) then offset_in rest
    else None

abbrev pub fields_in : List ℕ → Option Civil
fields_in text = do
  century ← two_at text 0
  year ← two_at text 2
  month ← two_at text 5
  day ← two_at text 8
  hour ← two_at text 11
  minute ← two_at text 14
  second ← two_at text 17
  Some (record {
    year = century * 100 + year;
    month = month;
    day = day;
    hour = hour;
    minute = minute;
    second = second;
  })

unfoldable pub civil_in : List ℕ → Option Civil
civil_in text = if has_marks text then fields_in text else None

-- the number of a time of day in UTC, by that in a zone
abbrev pub in_utc : ℕ → Zone → ℕ
in_utc number zone =
    if zone.0 then (number + (2 ^ 64 - zone.1)) % 2 ^ 64 else (number + zone.1) % 2 ^ 64

abbrev pub utc_number : Civil → Option Zone → Option ℕ
utc_number c zone = option_map (in_utc (civil_number c)) zone

-- the number of a date and a time of day with what stands after it
unfoldable pub number_in : Civil → List ℕ → Option ℕ
number_in c rest = if is_civil c then utc_number c (zone_of rest) else None

-- the number of a text that is a date and a time of day, in UTC or in another zone
unfoldable pub date_number : List ℕ → Option ℕ
date_number text =
    option_and_then (λ c. number_in c (drop 19 text)) (civil_in text)

-- The other way: a day of an era of 400 years, its year in the era, and its day in the year, each
-- counted from March and from 0.

abbrev pub year_of_era : ℕ → ℕ
year_of_era day = (day - day / 1460 + day / 36524 - day / 146096) / 365

abbrev pub day_of_year : ℕ → ℕ → ℕ
day_of_year day year = day - (365 * year + year / 4 - year / 100)

abbrev pub month_of : ℕ → ℕ
month_of month = if nat_lt month 10 then month + 3 else month - 9

-- the date of a year from March on, its day and its month, and the second of the day
abbrev pub civil_at : ℕ → ℕ → ℕ → ℕ → Civil
civil_at year day month second = record {
  year = if nat_lt month 10 then year else year + 1;
  month = month_of month;
  day = day - (153 * month + 2) / 5 + 1;
  hour = second / 3600;
  minute = second / 60 % 60;
  second = second % 60;
}

abbrev pub civil_of_day : ℕ → ℕ → ℕ → Civil
civil_of_day era day second =
    let year = year_of_era day in
    let rest = day_of_year day year in
    civil_at (era * 400 + year) rest ((5 * rest + 2) / 153) second

-- the date and the time of day of a number
unfoldable pub civil_of : ℕ → Civil
civil_of number =
    let seconds = (number + march_seconds) % 2 ^ 64 in
    civil_of_day (seconds / 86400 / 146097) (seconds / 86400 % 146097) (seconds % 86400)

abbrev pub two : ℕ → List ℕ
two n = (48 + n / 10 % 10) ∷ (48 + n % 10) ∷ []

abbrev pub civil_text : Civil → List ℕ
civil_text c =
    two (c.year / 100) ++ two c.year ++ codes "-" ++ two c.month ++ codes "-" ++ two c.day
    ++ codes "T" ++ two c.hour ++ codes ":" ++ two c.minute ++ codes ":" ++ two c.second
    ++ codes "+00:00"
