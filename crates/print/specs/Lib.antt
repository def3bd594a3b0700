-- What a reader must believe: numbers and lines as text, the text of a listing, the words that bytes make, and what each call answers and leaves.
pub mod Text
pub mod Listing
pub mod Words
pub mod Program
pub mod Answers
pub mod Inner
