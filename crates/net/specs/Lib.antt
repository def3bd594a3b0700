-- What a reader must believe: net images, firing, looking, the answers' numbers, and the image of an abstract net.
pub mod Image
pub mod Firing
pub mod Looking
pub mod Answers
pub mod Lent
pub mod Net
pub mod Inner
