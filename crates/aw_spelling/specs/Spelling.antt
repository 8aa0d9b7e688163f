-- How names, numbers, quoted texts and node names are spelled in bytes.
use Rattle.std.specs.Prelude.{ℕ, ◌+◌, ◌-◌, ◌*◌, ◌^◌, Bool, false, not, ◌&&◌, ◌||◌, nat_lt, nat_le, ◌==◌, List, [], ◌∷◌, ◌++◌, length, flat_map, decimal}
use Rattle.std.specs.Prelude.{Option, Some, None, is_some, option_map, option_and_then, if◌then◌else◌}
use Rattle.std.specs.List.{list_all, slice_split}

-- Names: a letter from a to z, and then letters, digits and '_'; at most 64 bytes.

-- a letter from a to z
abbrev pub is_letter : ℕ → Bool
is_letter b = nat_le 97 b && nat_le b 122

-- a digit from 0 to 9
abbrev pub is_digit : ℕ → Bool
is_digit b = nat_le 48 b && nat_le b 57

-- what may follow the first letter of a name
abbrev pub is_name_byte : ℕ → Bool
is_name_byte b = (is_letter b || is_digit b) || b == 95

-- whether the bytes are a name
abbrev pub is_name : List ℕ → Bool
is_name [] = false
is_name (b ∷ bs) = nat_le (length (b ∷ bs)) 64 && (is_letter b && list_all is_name_byte bs)

-- Numbers: "0", or digits without a leading zero; below 2 ^ 64.

-- the number that digits write when they follow those of n
abbrev pub value_after : ℕ → List ℕ → ℕ
value_after n [] = n
value_after n (d ∷ ds) = value_after (n * 10 + (d - 48)) ds

-- digits alone, with no zero in front of others
abbrev pub is_numeral : List ℕ → Bool
is_numeral [] = false
is_numeral (d ∷ []) = is_digit d
is_numeral (d ∷ e ∷ ds) = not (d == 48) && list_all is_digit (d ∷ e ∷ ds)

-- the number, where it is below 2 ^ 64
abbrev pub if_word : ℕ → Option ℕ
if_word n = if nat_lt n (2 ^ 64) then Some n else None

-- the number that the bytes write, where they are one
abbrev pub number_of : List ℕ → Option ℕ
number_of bs = if is_numeral bs then if_word (value_after 0 bs) else None

-- Texts: content between quotes, in which a pair that begins with a backslash stands for a quote (34),
-- a backslash (92) or a line feed (10).

-- a byte of a content: a line feed, or from 32 to 255, but not 127
abbrev pub is_content_byte : ℕ → Bool
is_content_byte b = b == 10 || (nat_le 32 b && not (b == 127))

-- whether the bytes are a content: at most 1,024 of them, each a byte of a content
abbrev pub is_content : List ℕ → Bool
is_content bs = nat_le (length bs) 1024 && list_all is_content_byte bs

-- how a byte of a content is spelled
abbrev pub spelled : ℕ → List ℕ
spelled b = if b == 34 then 92 ∷ 34 ∷ [] else if b == 92 then 92 ∷ 92 ∷ [] else if b == 10 then 92 ∷ 110 ∷ [] else b ∷ []

-- the text with this content
abbrev pub quoted : List ℕ → List ℕ
quoted content = 34 ∷ (flat_map spelled content ++ 34 ∷ [])

-- the byte for which a backslash and this byte stand
abbrev pub escaped : ℕ → Option ℕ
escaped b = if b == 34 then Some 34 else if b == 92 then Some 92 else if b == 110 then Some 10 else None

-- a byte that stands for itself between quotes
abbrev pub stands_for_itself : ℕ → Bool
stands_for_itself b = nat_le 32 b && (not (b == 34) && (not (b == 92) && not (b == 127)))

-- a byte in front of the first of two texts
abbrev pub with_front : ℕ → List ℕ × List ℕ → List ℕ × List ℕ
with_front b pair = (b ∷ pair.0, pair.1)

-- behind an opening quote: the content up to the closing quote, and what follows the quote
abbrev pub content_before_quote : List ℕ → Option (List ℕ × List ℕ)
content_before_quote [] = None
content_before_quote (b ∷ []) = if b == 34 then Some ([], []) else None
content_before_quote (b ∷ c ∷ bs) =
    if b == 34 then Some ([], c ∷ bs) else
    if b == 92 then option_and_then (λ e. option_map (with_front e) (content_before_quote bs)) (escaped c) else
    if stands_for_itself b then option_map (with_front b) (content_before_quote (c ∷ bs)) else None

-- the same of a content that is short enough
abbrev pub text_behind_quote : List ℕ → Option (List ℕ × List ℕ)
text_behind_quote bs = option_and_then (λ text. if nat_le (length text.0) 1024 then Some text else None) (content_before_quote bs)

-- the content, where nothing follows the text
abbrev pub whole : List ℕ × List ℕ → Option (List ℕ)
whole text = if length text.1 == 0 then Some text.0 else None

-- the content of a text, where the bytes are a text and nothing else
abbrev pub unquoted : List ℕ → Option (List ℕ)
unquoted [] = None
unquoted (b ∷ bs) =
    if b == 34 then option_and_then whole (text_behind_quote bs) else None

-- Node names: NAME '#' NUMBER, and then any number of steps '/' NAME '.' DIGIT.

-- the bytes before the first mark, and those behind it
abbrev pub cut : ℕ → List ℕ → Option (List ℕ × List ℕ)
cut mark [] = None
cut mark (b ∷ bs) = if b == mark then Some ([], bs) else option_map (with_front b) (cut mark bs)

-- the start sort and the number of the case
abbrev pub start_of : List ℕ → Option (List ℕ × ℕ)
start_of part = option_and_then (λ halves. if is_name halves.0 then option_map (λ n. (halves.0, n)) (number_of halves.1) else None) (cut 35 part)

-- a digit from 1 to 8
abbrev pub child_of : List ℕ → Option ℕ
child_of [] = None
child_of (d ∷ []) = if nat_le 49 d && nat_le d 56 then Some (d - 48) else None
child_of (d ∷ e ∷ ds) = None

-- the rule and the child
abbrev pub step_of : List ℕ → Option (List ℕ × ℕ)
step_of part = option_and_then (λ halves. if is_name halves.0 then option_map (λ child. (halves.0, child)) (child_of halves.1) else None) (cut 46 part)

-- the rules and children of all these parts, where each part is a step
abbrev pub steps_of : List (List ℕ) → Option (List (List ℕ × ℕ))
steps_of [] = Some []
steps_of (part ∷ parts) = option_and_then (λ step. option_map (λ steps. step ∷ steps) (steps_of parts)) (step_of part)

-- the parts between the slashes
abbrev pub parts : List ℕ → List (List ℕ)
parts bs = slice_split (λ b. b == 47) bs

-- the parts that are left behind a slash, where there is one
abbrev pub parts_behind : Option (List ℕ) → List (List ℕ)
parts_behind None = []
parts_behind (Some bs) = parts bs

-- start sort, case and steps
abbrev pub name_from : List (List ℕ) → Option (List ℕ × ℕ × List (List ℕ × ℕ))
name_from [] = None
name_from (part ∷ steps) = option_and_then (λ start. option_map (λ trail. (start.0, start.1, trail)) (steps_of steps)) (start_of part)

-- start sort, case and steps of a node name, where the bytes are one
abbrev pub parts_of_name : List ℕ → Option (List ℕ × ℕ × List (List ℕ × ℕ))
parts_of_name bs = name_from (parts bs)

-- whether the bytes are a node name
abbrev pub node_name : List ℕ → Bool
node_name bs = is_some (parts_of_name bs)

-- what parts have a spelling
abbrev pub is_step : List ℕ × ℕ → Bool
is_step step = is_name step.0 && (nat_le 1 step.1 && nat_le step.1 8)

-- a start sort that is a name, a case below 2 ^ 64, and steps that each have a spelling
abbrev pub has_spelling : List ℕ × ℕ × List (List ℕ × ℕ) → Bool
has_spelling name = is_name name.0 && (nat_lt name.1 (2 ^ 64) && list_all is_step name.2)

-- how a node name is spelled
abbrev pub spelled_steps : List (List ℕ × ℕ) → List ℕ
spelled_steps [] = []
spelled_steps (step ∷ steps) = 47 ∷ (step.0 ++ (46 ∷ (48 + step.1) ∷ spelled_steps steps))

-- the node name with this start sort, this case and these steps
abbrev pub spelled_name : List ℕ × ℕ × List (List ℕ × ℕ) → List ℕ
spelled_name name = name.0 ++ (35 ∷ (decimal name.1 ++ spelled_steps name.2))
