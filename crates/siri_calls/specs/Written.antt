pub mod DeliveryTexts
pub mod DeliveryTree
pub mod SaidAgain
pub mod Sayable
